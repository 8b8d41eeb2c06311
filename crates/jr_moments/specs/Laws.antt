-- The laws of dated records.
use Rattle.std.specs.Prelude.{◌≡◌, ℕ, ◌+◌, ◌≤◌, List, ◌++◌, length}
use Rattle.jr_moments.specs.Dated.{Dated, IsDated, record_size, spelled}

-- at most one dated record is spelled at the front of given bytes
abbrev pub AtMostOneDated : Type 0
AtMostOneDated = (d e : Dated) (behind_d behind_e : List ℕ) → IsDated d → IsDated e
    → spelled d ++ behind_d ≡ spelled e ++ behind_e → (d ≡ e) × (behind_d ≡ behind_e)

-- a record with its gate takes 14 bytes at least, and 16,410 at most, whatever its moment is
abbrev pub SizesAreBounded : Type 0
SizesAreBounded = (d : Dated) → IsDated d → (1 + length (spelled d) ≡ record_size d.what) × (14 ≤ record_size d.what) × (record_size d.what ≤ 16410)
