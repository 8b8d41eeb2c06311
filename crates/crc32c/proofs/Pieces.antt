-- The sum of bytes that come in pieces.
use Rattle.std.proofs.Common.{◌≡◌, ℕ, ◌-◌, ◌^◌, ◌<◌, List, ◌++◌, take, drop, sym, ap, ◌∙◌, bit_xor, take-append-drop}
use Rattle.std.proofs.lemmas.List.Sums.{fold-append}
use Rattle.std.specs.List.{fold}
use Rattle.crc32c.specs.Sums.{all_set, with_byte, crc_from, crc_of}
use Rattle.crc32c.proofs.Steps.{complement, cancelled}

-- where all bytes are taken in, the complement of the register is the sum
pub ended : (sum start : ℕ) (bytes : List ℕ) (register : ℕ) → register < 2 ^ 32 → start ≡ bit_xor all_set sum → register ≡ fold with_byte start bytes → 2 ^ 32 - 1 - register ≡ crc_from sum bytes
unfolding crc_from
ended sum start bytes register small begins is = complement register small ∙ ap (bit_xor all_set) (is ∙ ap (λ (n : ℕ). fold with_byte n bytes) begins)

-- bytes are taken in front by front
pub cut_off : (register : ℕ) (rest eight behind : List ℕ) → eight ≡ take 8 rest → behind ≡ drop 8 rest → fold with_byte (fold with_byte register eight) behind ≡ fold with_byte register rest
cut_off register rest eight behind front back =
    sym (fold-append with_byte register eight behind)
    ∙ ap (fold with_byte register) (ap (λ (xs : List ℕ). xs ++ behind) front ∙ ap (λ (xs : List ℕ). take 8 rest ++ xs) back ∙ take-append-drop 8 rest)

-- a sum goes on over more bytes
pub went_on : (front bytes : List ℕ) (sum : ℕ) → sum ≡ crc_of front → crc_from sum bytes ≡ crc_of (front ++ bytes)
unfolding crc_from
went_on front bytes sum is =
    ap (λ (n : ℕ). bit_xor all_set (fold with_byte (bit_xor all_set n) bytes)) is
    ∙ ap (λ (n : ℕ). bit_xor all_set (fold with_byte n bytes)) (cancelled all_set (fold with_byte all_set front))
    ∙ ap (bit_xor all_set) (sym (fold-append with_byte all_set front bytes))
