-- The laws of dated records and of the images that hold them.
use Rattle.std.specs.Prelude.{◌≡◌, ℕ, ◌+◌, ◌≤◌, List, ◌++◌, length}
use Rattle.jr_record.specs.declared.record.Record.{Record}
use Rattle.jr_record.specs.Images.{IsJournal as IsPlainJournal}
use Rattle.jr_dated.specs.Dated.{Dated, IsDated, spelled}
use Rattle.jr_dated.specs.Images.{IsJournal, IsDamaged, IsNotFormatted, record_size}

-- at most one dated record is spelled at the front of given bytes
abbrev pub AtMostOneDated : Type 0
AtMostOneDated = (d e : Dated) (behind_d behind_e : List ℕ) → IsDated d → IsDated e
    → spelled d ++ behind_d ≡ spelled e ++ behind_e → (d ≡ e) × (behind_d ≡ behind_e)

-- a record with its gate takes 14 bytes at least, and 16,410 at most, whatever its moment is
abbrev pub SizesAreBounded : Type 0
SizesAreBounded = (d : Dated) → IsDated d → (1 + length (spelled d) ≡ record_size d.what) × (14 ≤ record_size d.what) × (record_size d.what ≤ 16410)

-- an image holds at most one list, or is damaged at one place at most, or is not formatted
pub record AtMostOneVerdict : Type 0 where
  pub one_list : (image : List ℕ) (h k : List Dated) → IsJournal image h → IsJournal image k → h ≡ k
  pub one_place : (image : List ℕ) (at place : ℕ) → IsDamaged image at → IsDamaged image place → at ≡ place
  pub whole : (image : List ℕ) (h : List Dated) (at : ℕ) → IsJournal image h → IsDamaged image at → ⊥
  pub formatted : (image : List ℕ) (h : List Dated) → IsJournal image h → IsNotFormatted image → ⊥
  pub damaged : (image : List ℕ) (at : ℕ) → IsDamaged image at → IsNotFormatted image → ⊥

-- no image is a journal of both formats
abbrev pub AtMostOneFormat : Type 0
AtMostOneFormat = (image : List ℕ) (h : List Record) (k : List Dated) → IsPlainJournal image h → IsJournal image k → ⊥
