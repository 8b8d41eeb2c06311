-- What a stream of bytes has of a journal: its records, in order, and where they end (this project's journal format).
use Rattle.std.specs.Prelude.{◌≡◌, ℕ, ◌+◌, ◌-◌, ◌^◌, min, List, ◌++◌, length}
use Rattle.std.specs.List.{AllByRecursion}
use Rattle.jr_record.specs.Images.{gated}
use Rattle.jr_dated.specs.declared.formats.Format.{Format}
use Rattle.jr_dated.specs.Dated.{Dated}
use Rattle.jr_dated.specs.Formats.{header_of, LegalIn, spelled_in, IsJournalIn, IsDamagedIn}
use Rattle.jr_stream.specs.declared.reader.End.{End}
use Rattle.jr_stream.specs.declared.reader.End.TheVariants.{Closed, Damaged}

-- what is past the greatest number of 64 bits is given as that number
abbrev pub counted : ℕ → ℕ
counted n = min n (2 ^ 64 - 1)

-- where the next gate or the closed byte is awaited behind these records, in bytes from 0
abbrev pub place_behind : Format → List Dated → ℕ
place_behind format records = counted (length (header_of format) + length (gated (spelled_in format) records))

-- the image begins as a journal with these records
pub record BeginsWith (format : Format) (image : List ℕ) (records : List Dated) : Type 0 where
  pub legal : AllByRecursion (LegalIn format) records
  pub behind : List ℕ
  pub whole : image ≡ header_of format ++ gated (spelled_in format) records ++ behind

-- the image is damaged, and these are the records before that
pub record IsDamagedBehind (format : Format) (image : List ℕ) (records : List Dated) : Type 0 where
  pub place : ℕ
  pub damaged : IsDamagedIn format image place
  pub records_are : damaged.records ≡ records

-- the image has these records, and behind them the closed byte stands at this place, or the image is damaged there
abbrev pub HasRecords : Format → List ℕ → List Dated → End → Type 0
HasRecords format image records (Closed at) = IsJournalIn format image records × (at ≡ place_behind format records)
HasRecords format image records (Damaged at) = IsDamagedBehind format image records × (at ≡ place_behind format records)
