-- The laws of records with their sums.
use Rattle.std.specs.Prelude.{◌≡◌, ◌≢◌, ℕ, ◌+◌, ◌≤◌, List, ◌++◌, length}
use Rattle.crc32c.specs.Laws.{AreBytes}
use Rattle.jr_moments.specs.Dated.{Dated, IsDated, record_size, spelled}
use Rattle.jr_summed.specs.declared.reading.Found.{Found}
use Rattle.jr_summed.specs.declared.reading.Found.TheVariants.{Changed}
use Rattle.jr_summed.specs.Summed.{IsFound, Stands, sum_of, summed}

-- the same bytes are found to be one thing
abbrev pub AtMostOneFound : Type 0
AtMostOneFound = (bytes : List ℕ) (f g : Found) → IsFound bytes f → IsFound bytes g → f ≡ g

-- at most one record with its sum stands at the front of given bytes
abbrev pub AtMostOneSummed : Type 0
AtMostOneSummed = (d e : Dated) (behind_d behind_e : List ℕ) → IsDated d → IsDated e
    → summed d ++ behind_d ≡ summed e ++ behind_e → (d ≡ e) × (behind_d ≡ behind_e)

-- with its gate it takes four bytes more than without its sum, 18 at least, and 16,414 at most
abbrev pub SizesAreBounded : Type 0
SizesAreBounded = (d : Dated) → IsDated d → (1 + length (summed d) ≡ record_size d.what + 4) × (18 ≤ 1 + length (summed d)) × (1 + length (summed d) ≤ 16414)

-- where at most four neighbouring bytes of a record are replaced by others, its sum is as it was, and what stands there is a record of
-- its length, this is found to be changed
abbrev pub ShortChangesShow : Type 0
ShortChangesShow = (d e : Dated) (front old new back sum behind : List ℕ) → AreBytes front → AreBytes old → AreBytes new → AreBytes back
    → length old ≡ length new → length old ≤ 4 → old ≢ new → front ++ old ++ back ≡ spelled d
    → Stands (front ++ new ++ back ++ sum_of d ++ behind) e sum → length (spelled e) ≡ length (spelled d)
    → IsFound (front ++ new ++ back ++ sum_of d ++ behind) Changed
