-- What reading a record again finds.
use Rattle.std.specs.Prelude.{◌≡◌, ◌⊎◌, ℕ, ◌+◌, ◌-◌, ◌<◌, ◌≤◌, slice_index, List, ◌∷◌, ◌++◌, length, take, drop, Option, Some, None}
use Rattle.std.specs.Option.{ForSome}
use Rattle.jr_dated.specs.Dated.{Dated, IsDated, spelled, undated}
use Rattle.jr_dated.specs.Images.{record_size, sizes}

-- the record at this index, which stands at this place, behind its gate, and takes so many bytes without it
pub record Spans (h : List Dated) (i at size : ℕ) : Type 0 where
  pub before : List Dated
  pub here : Dated
  pub after : List Dated
  pub split : h ≡ before ++ here ∷ after
  pub index : length before ≡ i
  pub place : at ≡ 17 + sizes (undated before)
  pub bytes : record_size here.what ≡ 1 + size

-- the next gate behind the one at this index, or the closed byte, stands at this place
abbrev pub IsNext : (places : List ℕ) (size i next : ℕ) → Type 0
IsNext places size i next = ((i + 1 < length places) × (next ≡ slice_index places (i + 1))) ⊎ ((length places ≤ i + 1) × (next ≡ size - 1))

-- a record of so many bytes, without its gate, whose moment is not behind the latest
abbrev pub IsFitting : (size latest : ℕ) → Option Dated → Type 0
IsFitting size latest None = ⊥
IsFitting size latest (Some d) = (d.moment ≤ latest) × (record_size d.what ≡ 1 + size)

-- the bytes that the content has at a place are exactly those of this record
pub record IsThere (at size latest : ℕ) (d : Dated) (content : List ℕ) : Type 0 where
  pub legal : IsDated d
  pub early : d.moment ≤ latest
  pub bytes : length (spelled d) ≡ size
  pub spells : take size (drop at content) ≡ spelled d

-- what was read there is the record whose bytes stand there; nothing where there is none
abbrev pub Fetched : Option (List ℕ) → (at size latest : ℕ) → Option Dated → Type 0
Fetched told at size latest None = (d : Dated) → ForSome told (λ content. IsThere at size latest d content → ⊥)
Fetched told at size latest (Some d) = IsDated d × (d.moment ≤ latest) × (length (spelled d) ≡ size) × ForSome told (IsThere at size latest d)
