-- The laws of records and of the images that hold them.
use Rattle.std.specs.Prelude.{◌≡◌, ℕ, ◌≤◌, List, ◌++◌}
use Rattle.jr_record.specs.declared.record.Record.{Record}
use Rattle.jr_record.specs.Records.{IsRecord, spelled}
use Rattle.jr_record.specs.Images.{IsJournal, IsDamaged, IsNotFormatted, record_size}

-- at most one record is spelled at the front of given bytes
abbrev pub AtMostOneRecord : Type 0
AtMostOneRecord = (r s : Record) (behind_r behind_s : List ℕ) → IsRecord r → IsRecord s
    → spelled r ++ behind_r ≡ spelled s ++ behind_s → (r ≡ s) × (behind_r ≡ behind_s)

-- a record with its gate takes 6 bytes at least, and 16,402 at most
abbrev pub SizesAreBounded : Type 0
SizesAreBounded = (r : Record) → IsRecord r → (6 ≤ record_size r) × (record_size r ≤ 16402)

-- an image holds at most one list, or is damaged at one place at most, or is not formatted
pub record AtMostOneVerdict : Type 0 where
  pub one_list : (image : List ℕ) (h k : List Record) → IsJournal image h → IsJournal image k → h ≡ k
  pub one_place : (image : List ℕ) (at place : ℕ) → IsDamaged image at → IsDamaged image place → at ≡ place
  pub whole : (image : List ℕ) (h : List Record) (at : ℕ) → IsJournal image h → IsDamaged image at → ⊥
  pub formatted : (image : List ℕ) (h : List Record) → IsJournal image h → IsNotFormatted image → ⊥
  pub damaged : (image : List ℕ) (at : ℕ) → IsDamaged image at → IsNotFormatted image → ⊥
