-- The one fault that a device answers, and the count that shows its cause (this project's profile).
use Rattle.std.specs.Prelude.{◌≡◌, ℕ, ◌+◌, ◌-◌, ◌^◌, ◌≤◌, min, List, Option, Result, take, length, MatchResult}
use Rattle.std.specs.Io.KnownBytes.{Appends}

-- A count of faults rose, or stands at its greatest number already.
abbrev pub HasRisen : ℕ → ℕ → Type 0
HasRisen old new = min (old + 1) (2 ^ 64 - 1) ≤ new

-- A count of faults never falls, a call fails only where it rose, and it stays where the call does not fail.
pub record HasCause {T E : Type 0} (old new : ℕ) (result : Result T E) : Type 0 where
  pub never_falls : old ≤ new
  pub risen : MatchResult result (λ _. new ≡ old) (λ _. HasRisen old new)

-- A device that tells its content took the first n bytes.
pub record TakesFront (old new : Option (List ℕ)) (bytes : List ℕ) : Type 0 where
  pub count : ℕ
  pub within : count ≤ length bytes
  pub appended : Appends old new (take count bytes)
