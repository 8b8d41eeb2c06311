-- How identifiers are kept so that one is found by a binary search: their numbers in rising order, each with its place.
-- No clause of a public call speaks of it.
use Rattle.std.specs.Prelude.{◌≡◌, ℕ, ◌+◌, ◌*◌, ◌^◌, ◌<◌, ◌≤◌, ◌⊎◌, List, [], ◌∷◌, length, take, drop, get_or}
use Rattle.std.specs.Int.{w64, from_be_bytes}
use Rattle.std.specs.List.{AllByRecursion}
use Rattle.routes.specs.Identifiers.{StandsAt}
use Rattle.routes.specs.declared.sorted.Route.{Route}

-- the numbers that the first and the last 8 bytes spell, the high byte first
abbrev pub high_half : List ℕ → ℕ
high_half id = from_be_bytes w64 (take 8 id)

abbrev pub low_half : List ℕ → ℕ
low_half id = from_be_bytes w64 (take 8 (drop 8 id))

-- 16 bytes, the last 8 of which spell a number of 64 bits
pub record IsIdentifier (id : List ℕ) : Type 0 where
  pub size : length id ≡ 16
  pub bytes : (i : ℕ) → get_or id i 0 < 256
  pub fits : low_half id < 2 ^ 64

-- the number that all of them spell
unfoldable pub key_of : List ℕ → ℕ
key_of id = high_half id * 2 ^ 64 + low_half id

abbrev pub Rising : List Route → Type 0
Rising [] = Unit {0}
Rising (r ∷ rs) = AllByRecursion (λ (s : Route). r.key < s.key) rs × Rising rs

-- a number stands there with this place
abbrev pub Has : List Route → (key place : ℕ) → Type 0
Has [] key place = ⊥
Has (r ∷ rs) key place = ((r.key ≡ key) × (r.place ≡ place)) ⊎ Has rs key place

-- a number is that of the identifier at its place
pub record IsRoute (ids : List (List ℕ)) (r : Route) : Type 0 where
  pub id : List ℕ
  pub stands : StandsAt ids id r.place
  pub is : IsIdentifier id
  pub key : r.key ≡ key_of id

pub record IsSorted (ids : List (List ℕ)) (routes : List Route) : Type 0 where
  pub rising : Rising routes
  pub each : AllByRecursion (IsRoute ids) routes
  pub all : (id : List ℕ) (place : ℕ) → StandsAt ids id place → Has routes (key_of id) place

-- lower numbers stand before an index, and greater ones from it on
pub record IsBetween (routes : List Route) (at key : ℕ) : Type 0 where
  pub within : at ≤ length routes
  pub below : AllByRecursion (λ (r : Route). r.key < key) (take at routes)
  pub above : AllByRecursion (λ (r : Route). key < r.key) (drop at routes)
