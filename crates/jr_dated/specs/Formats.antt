-- The two formats of a journal. In format 1 each record has the moment 0, which is not written.
use Rattle.std.specs.Prelude.{◌≡◌, ◌≢◌, ℕ, List, ◌++◌, take, Option, Some, None}
use Rattle.jr_record.specs.declared.record.Record.{Record}
use Rattle.jr_record.specs.Records.{IsRecord, spelled as plain}
use Rattle.jr_record.specs.Images.{header as plain_header, record_size as plain_size, ImageHolds, ImageDamaged}
use Rattle.jr_dated.specs.Dated.{Dated, IsDated, spelled}
use Rattle.jr_dated.specs.Images.{header, record_size}
use Rattle.jr_dated.specs.declared.formats.Format.{Format}
use Rattle.jr_dated.specs.declared.formats.Format.TheVariants.{One, Two}

-- the first bytes of a journal, the records that it has, and their bytes
abbrev pub header_of : Format → List ℕ
header_of One = plain_header
header_of Two = header

abbrev pub LegalIn : Format → Dated → Type 0
LegalIn One d = IsRecord d.what × (d.moment ≡ 0)
LegalIn Two d = IsDated d

abbrev pub spelled_in : Format → Dated → List ℕ
spelled_in One d = plain d.what
spelled_in Two d = spelled d

-- the bytes of a record with its gate
abbrev pub size_in : Format → Record → ℕ
size_in One r = plain_size r
size_in Two r = record_size r

-- the bytes are a journal of the format with these records, or damaged, or none
abbrev pub IsJournalIn : Format → List ℕ → List Dated → Type 0
IsJournalIn format image records = ImageHolds (header_of format) (LegalIn format) (spelled_in format) image records

abbrev pub IsDamagedIn : Format → List ℕ → ℕ → Type 0
IsDamagedIn format image at = ImageDamaged (header_of format) (LegalIn format) (spelled_in format) image at

abbrev pub IsNotFormattedIn : Format → List ℕ → Type 0
IsNotFormattedIn format image = take 16 image ≢ header_of format

-- the record at the front of these bytes; none where they begin with none
abbrev pub BeginsIn : Format → List ℕ → Option Dated → Type 0
BeginsIn format bytes (Some d) = LegalIn format d × (behind : List ℕ) × (spelled_in format d ++ behind ≡ bytes)
BeginsIn format bytes None = (d : Dated) (behind : List ℕ) → LegalIn format d → spelled_in format d ++ behind ≡ bytes → ⊥
