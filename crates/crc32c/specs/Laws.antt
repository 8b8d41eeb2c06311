-- The laws of the sum.
use Rattle.std.specs.Prelude.{◌≡◌, ◌≢◌, ℕ, ◌≤◌, ◌<◌, List, ◌∷◌, ◌++◌, length, reverse, replicate, codes}
use Rattle.std.specs.List.{AllByRecursion, range_with_len}
use Rattle.crc32c.specs.Sums.{crc_of}

-- the command of RFC 3720, appendix B.4: an iSCSI SCSI Read (10)
abbrev pub read_command : List ℕ
read_command =
    0x01 ∷ 0xC0 ∷ replicate 14 0 ++ 0x14 ∷ replicate 5 0 ++ 0x04 ∷ replicate 4 0 ++ 0x14 ∷ replicate 3 0 ++ 0x18 ∷ 0x28 ∷ replicate 7 0 ++ 0x02 ∷ replicate 7 0

-- the sums of RFC 3720, appendix B.4, and that of the nine digits, by which implementations are checked
pub record PublishedSums : Type 0 where
  pub digits : crc_of (codes "123456789") ≡ 0xE3069283
  pub zeros : crc_of (replicate 32 0) ≡ 0x8A9136AA
  pub ones : crc_of (replicate 32 0xFF) ≡ 0x62A8AB43
  pub rising : crc_of (range_with_len 0 32) ≡ 0x46DD794E
  pub falling : crc_of (reverse (range_with_len 0 32)) ≡ 0x113FDB5C
  pub command : crc_of read_command ≡ 0xD9963A56

abbrev pub AreBytes : List ℕ → Type 0
AreBytes bytes = AllByRecursion (λ (b : ℕ). b < 256) bytes

-- where at most four neighbouring bytes are replaced by others, the sum is another one
abbrev pub ShortChangesShow : Type 0
ShortChangesShow = (front old new behind : List ℕ) → AreBytes front → AreBytes old → AreBytes new → AreBytes behind
    → length old ≡ length new → length old ≤ 4 → old ≢ new → crc_of (front ++ old ++ behind) ≢ crc_of (front ++ new ++ behind)
