-- Which dated records an image of a journal holds: format 2 as an instance of what an image of a journal is.
use Rattle.std.specs.Prelude.{◌≢◌, ℕ, ◌+◌, List, [], ◌∷◌, ◌++◌, length, take, Option, Some, None}
use Rattle.jr_record.specs.declared.record.Record.{Record}
use Rattle.jr_record.specs.Records.{body_of}
use Rattle.jr_record.specs.Images.{ImageHolds, ImageDamaged}
use Rattle.jr_dated.specs.Dated.{Dated, IsDated, spelled}

-- Format 2: the magic FIXPJRN2 and eight zero bytes
abbrev pub magic : List ℕ
magic = 0x46 ∷ 0x49 ∷ 0x58 ∷ 0x50 ∷ 0x4A ∷ 0x52 ∷ 0x4E ∷ 0x32 ∷ []

abbrev pub header : List ℕ
header = magic ++ 0 ∷ 0 ∷ 0 ∷ 0 ∷ 0 ∷ 0 ∷ 0 ∷ 0 ∷ []

-- the bytes are a journal of format 2 with these records
abbrev pub IsJournal : List ℕ → List Dated → Type 0
IsJournal image dated = ImageHolds header IsDated spelled image dated

-- they begin with the header, and are damaged at this place
abbrev pub IsDamaged : List ℕ → ℕ → Type 0
IsDamaged image at = ImageDamaged header IsDated spelled image at

-- they are no journal of format 2
abbrev pub IsNotFormatted : List ℕ → Type 0
IsNotFormatted image = take 16 image ≢ header

-- the bytes of a record with its gate; no moment changes them
abbrev pub record_size : Record → ℕ
record_size r = 14 + length (body_of r)

abbrev pub sizes : List Record → ℕ
sizes [] = 0
sizes (r ∷ rs) = record_size r + sizes rs

-- those of a journal: the header, the records with their gates, the closed byte
abbrev pub journal_size : List Record → ℕ
journal_size records = 17 + sizes records

-- some content that a stop may leave holds exactly these records, or, at None, no list of records
abbrev pub Leaves : (List ℕ → Type 0) → Option (List Dated) → Type 0
Leaves may_leave (Some records) = (image : List ℕ) × may_leave image × IsJournal image records
Leaves may_leave None = (image : List ℕ) × may_leave image × ((records : List Dated) → IsJournal image records → ⊥)
