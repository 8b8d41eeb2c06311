-- What a disk has to have so that a journal may be moved to it (this project's profile).
use Rattle.std.specs.Prelude.{◌≡◌, ◌≢◌, ◌⊎◌, ℕ, ◌<◌, ◌≤◌, List, [], ◌∷◌, length, take, slice_index_or}
use Rattle.jr_log.specs.declared.clearing.Seen.{Seen}
use Rattle.jr_log.specs.declared.clearing.Seen.TheVariants.{Used, Cleared, Short}

-- fewer bytes than a header has, or a first byte that is 0, as a stop leaves it before the whole journal stands
abbrev pub IsFresh : List ℕ → Type 0
IsFresh content = (length content < 16) ⊎ (take 1 content ≡ 0 ∷ [])

-- anything else
pub record IsUsed (content : List ℕ) : Type 0 where
  pub long : 16 ≤ length content
  pub first : take 1 content ≢ 0 ∷ []

-- what was seen of it
abbrev pub IsSeen : Seen → List ℕ → Type 0
IsSeen Used content = IsUsed content
IsSeen Cleared content = take 1 content ≡ 0 ∷ []
IsSeen Short content = length content < 16

-- whatever stop comes, it leaves a first byte, and that is 0
abbrev pub AllCleared : (List ℕ → Type 0) → Type 0
AllCleared may_leave = (image : List ℕ) → may_leave image → take 1 image ≡ 0 ∷ []
