-- What a word says of the first record that is shown (this project's profile).
use Rattle.std.specs.Prelude.{◌≡◌, ◌⊎◌, ℕ, ◌*◌, ◌^◌, ◌<◌, ◌≤◌, List, ◌∷◌, ◌++◌, codes, decimal}
use Rattle.text_dates.specs.Dates.{time_text}
use Rattle.jr_shown.specs.declared.choice.Begin.{Begin}
use Rattle.jr_shown.specs.declared.choice.Begin.TheVariants as begins

-- the seconds since midnight that a word says: HH:MM:SS, or HH:MM where no second has begun
pub record SaysTime (word : List ℕ) (seconds : ℕ) : Type 0 where
  pub within : seconds < 86400
  pub written : (word ≡ time_text seconds) ⊎ (word ++ codes ":00" ≡ time_text seconds)

-- a number from 1 on that 64 bits hold
pub record SaysNumber (word : List ℕ) (n : ℕ) : Type 0 where
  pub counts : 1 ≤ n
  pub fits : n < 2 ^ 64
  pub written : word ≡ decimal n

-- such a number behind a minus sign
pub record SaysLast (word : List ℕ) (n : ℕ) : Type 0 where
  pub rest : List ℕ
  pub behind : word ≡ 45 ∷ rest
  pub says : SaysNumber rest n

-- N, -N or a time of day
abbrev pub IsBegin : List ℕ → Begin → Type 0
IsBegin word (begins.Number n) = SaysNumber word n
IsBegin word (begins.Last n) = SaysLast word n
IsBegin word (begins.TimeOfDay time) = (seconds : ℕ) × (time ≡ seconds * 1000) × SaysTime word seconds
