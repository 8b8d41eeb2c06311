-- Which records an image of a journal holds. It reads no order of writes.
-- A format has a header, tells which records it has, and spells each one.
use Rattle.std.specs.Prelude.{◌≡◌, ◌≢◌, ℕ, ◌+◌, List, [], ◌∷◌, ◌++◌, length, take, ⊤}
use Rattle.std.specs.List.{AllByRecursion, flat_map}
use Rattle.jr_record.specs.declared.record.Record.{Record}
use Rattle.jr_record.specs.Records.{IsRecord, spelled}

-- each record behind a byte equal to 1, its gate
abbrev pub gated : {R : Type 0} → (R → List ℕ) → List R → List ℕ
gated spell records = flat_map (λ r. 1 ∷ spell r) records

-- The image is the header, then each record behind its gate, then a byte other than 1, the closed byte. What follows it
-- means nothing
pub record ImageHolds {R : Type 0} (header : List ℕ) (Legal : R → Type 0) (spell : R → List ℕ) (image : List ℕ) (records : List R) : Type 0 where
  pub legal : AllByRecursion Legal records
  pub closed : ℕ
  pub is_closed : closed ≢ 1
  pub behind : List ℕ
  pub whole : image ≡ header ++ gated spell records ++ closed ∷ behind

-- no record is spelled at the front of these bytes
abbrev pub NoneSpelled : {R : Type 0} → (R → Type 0) → (R → List ℕ) → List ℕ → Type 0
NoneSpelled {R} Legal spell bytes = (r : R) (behind : List ℕ) → Legal r → spell r ++ behind ≡ bytes → ⊥

-- where a gate or the closed byte is awaited, the image ends, or a gate stands with no record behind it
abbrev pub Breaks : {R : Type 0} → (R → Type 0) → (R → List ℕ) → List ℕ → Type 0
Breaks Legal spell [] = ⊤
Breaks Legal spell (gate ∷ behind) = (gate ≡ 1) × NoneSpelled Legal spell behind

-- the closed byte stands at the front
pub record IsClosed (bytes : List ℕ) : Type 0 where
  pub closed : ℕ
  pub is_closed : closed ≢ 1
  pub behind : List ℕ
  pub whole : bytes ≡ closed ∷ behind

-- The header is there, and `at` is the first place where a gate or the closed byte is awaited and the image breaks
pub record ImageDamaged {R : Type 0} (header : List ℕ) (Legal : R → Type 0) (spell : R → List ℕ) (image : List ℕ) (at : ℕ) : Type 0 where
  pub records : List R
  pub legal : AllByRecursion Legal records
  pub rest : List ℕ
  pub whole : image ≡ header ++ gated spell records ++ rest
  pub place : at ≡ length header + length (gated spell records)
  pub breaks : Breaks Legal spell rest

-- Format 1: the magic FIXPJRN1 and eight zero bytes
abbrev pub magic : List ℕ
magic = 0x46 ∷ 0x49 ∷ 0x58 ∷ 0x50 ∷ 0x4A ∷ 0x52 ∷ 0x4E ∷ 0x31 ∷ []

abbrev pub header : List ℕ
header = magic ++ 0 ∷ 0 ∷ 0 ∷ 0 ∷ 0 ∷ 0 ∷ 0 ∷ 0 ∷ []

-- the bytes are a journal of format 1 with these records
abbrev pub IsJournal : List ℕ → List Record → Type 0
IsJournal image records = ImageHolds header IsRecord spelled image records

-- they begin with the header, and are damaged at this place
abbrev pub IsDamaged : List ℕ → ℕ → Type 0
IsDamaged image at = ImageDamaged header IsRecord spelled image at

-- they are no journal of format 1
abbrev pub IsNotFormatted : List ℕ → Type 0
IsNotFormatted image = take 16 image ≢ header

-- the bytes of a record with its gate, and of a journal: the header, the records with their gates, the closed byte
abbrev pub record_size : Record → ℕ
record_size r = 1 + length (spelled r)

abbrev pub journal_size : List Record → ℕ
journal_size records = 17 + length (gated spelled records)
