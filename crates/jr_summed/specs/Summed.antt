-- The records of a journal with their sums, and their bytes (this project's journal format, version 3): those of format 2, and behind
-- them their CRC-32C in four bytes, little-endian.
use Rattle.std.specs.Prelude.{◌≡◌, ◌≢◌, List, ◌++◌, ℕ, length}
use Rattle.std.specs.Int.{w32, to_le_bytes}
use Rattle.crc32c.specs.Sums.{crc_of}
use Rattle.jr_moments.specs.Dated.{Dated, IsDated, stamped, spelled}
use Rattle.jr_summed.specs.declared.reading.Found.{Found}
use Rattle.jr_summed.specs.declared.reading.Found.TheVariants.{Whole, Changed, Nothing}

-- the four bytes behind a record: the sum of its kind, moment, length and body
abbrev pub sum_of : Dated → List ℕ
sum_of d = to_le_bytes w32 (crc_of (spelled d))

unfoldable pub summed : Dated → List ℕ
summed d = spelled d ++ sum_of d

-- a record and these four bytes stand at the front
pub record Stands (bytes : List ℕ) (d : Dated) (sum : List ℕ) : Type 0 where
  pub legal : IsDated d
  pub size : length sum ≡ 4
  pub behind : List ℕ
  pub whole : spelled d ++ (sum ++ behind) ≡ bytes

-- and the bytes are not its sum
pub record IsChanged (bytes : List ℕ) : Type 0 where
  pub what : Dated
  pub sum : List ℕ
  pub stands : Stands bytes what sum
  pub other : sum ≢ sum_of what

-- what stands at the front
abbrev pub IsFound : List ℕ → Found → Type 0
IsFound bytes (Whole r moment) = Stands bytes (stamped moment r) (sum_of (stamped moment r))
IsFound bytes Changed = IsChanged bytes
IsFound bytes Nothing = (d : Dated) (sum : List ℕ) → Stands bytes d sum → ⊥
