-- A journal with moments as a session speaks of it: by its records without their moments.
use Rattle.std.specs.Prelude.{◌≡◌, ℕ, List, take, Option, Some, None}
use Rattle.jr_record.specs.declared.record.Record.{Record}
use Rattle.jr_record.specs.Images.{header as old_header}
use Rattle.jr_dated.specs.Images.{IsJournal as IsDatedJournal}
use Rattle.jr_kept.specs.Undated.{Undated}

-- the bytes are a journal of these records, each with some moment
abbrev pub IsJournal : List ℕ → List Record → Type 0
IsJournal content records = Undated IsDatedJournal content records

-- some content that a stop may leave holds exactly these records, or, at None, no list of records
abbrev pub Leaves : (List ℕ → Type 0) → Option (List Record) → Type 0
Leaves may_leave (Some records) = (image : List ℕ) × may_leave image × IsJournal image records
Leaves may_leave None = (image : List ℕ) × may_leave image × ((records : List Record) → IsJournal image records → ⊥)

-- the bytes begin as a journal of format 1 does
abbrev pub IsOldFormat : List ℕ → Type 0
IsOldFormat content = take 16 content ≡ old_header
