-- Where at most four neighbouring bytes differ, the registers differ from there on.
use Rattle.std.proofs.Common.{◌≡◌, ℕ, zero, suc, ◌+◌, ◌*◌, ◌^◌, ◌<◌, ◌≤◌, List, [], ◌∷◌, ◌++◌, length, refl, sym, ap, ◌∙◌, arith, bit_xor, replicate, lit<}
use Rattle.std.proofs.lemmas.List.Sums.{fold-append}
use Rattle.std.proofs.lemmas.Nat.{xor_comm, xor_of_32}
use Rattle.std.specs.Int.Bits.{xor_assoc, xor_zero_r}
use Rattle.std.specs.List.{fold}
use Rattle.crc32c.specs.Laws.{AreBytes, ShortChangesShow}
use Rattle.crc32c.specs.Sums.{all_set, with_byte, crc_from, crc_of, eight_steps}
use Rattle.crc32c.proofs.Steps.{same_behind, same_before, low_byte, eight_xor, eight_high, eight_within, eight_same}

-- ---- the same bytes keep registers apart

byte_within : (c byte : ℕ) → c < 2 ^ 32 → byte < 256 → with_byte c byte < 2 ^ 32
unfolding with_byte
byte_within c byte small b = eight_within (bit_xor c byte) (xor_of_32 c byte small (omega arith))

byte_same : (c d byte : ℕ) → c < 2 ^ 32 → d < 2 ^ 32 → byte < 256 → with_byte c byte ≡ with_byte d byte → c ≡ d
unfolding with_byte
byte_same c d byte small_c small_d b e =
    same_before byte c d
    (eight_same (bit_xor c byte) (bit_xor d byte) (xor_of_32 c byte small_c (omega arith)) (xor_of_32 d byte small_d (omega arith)) e)

pub bytes_within : (c : ℕ) (bytes : List ℕ) → c < 2 ^ 32 → AreBytes bytes → fold with_byte c bytes < 2 ^ 32
bytes_within c [] small all = small
bytes_within c (b ∷ bytes) small all = bytes_within (with_byte c b) bytes (byte_within c b small all.0) all.1

pub bytes_same : (c d : ℕ) (bytes : List ℕ) → c < 2 ^ 32 → d < 2 ^ 32 → AreBytes bytes → fold with_byte c bytes ≡ fold with_byte d bytes → c ≡ d
bytes_same c d [] small_c small_d all e = e
bytes_same c d (b ∷ bytes) small_c small_d all e =
    byte_same c d b small_c small_d all.0
    (bytes_same (with_byte c b) (with_byte d b) bytes (byte_within c b small_c all.0) (byte_within d b small_d all.0) all.1 e)

-- ---- bytes are taken in as one word and zeros

-- the number that bytes spell, the low one first
word : List ℕ → ℕ
word [] = 0
word (b ∷ bytes) = word bytes * 256 + b

word_nil : word [] ≡ 0
unfolding word
word_nil = refl

word_cons : (b : ℕ) (bytes : List ℕ) → word (b ∷ bytes) ≡ word bytes * 256 + b
unfolding word
word_cons b bytes = refl

with_word : (c b h : ℕ) → b < 256 → with_byte (bit_xor c (h * 256 + b)) 0 ≡ bit_xor (with_byte c b) h
unfolding with_byte
with_word c b h small =
    let parts : bit_xor c (h * 256 + b) ≡ bit_xor (bit_xor c b) (h * 256) =
    ap (bit_xor c) (low_byte b h small ∙ xor_comm (h * 256) b) ∙ sym (xor_assoc c b (h * 256)) in
    ap eight_steps (xor_zero_r (bit_xor c (h * 256 + b)) ∙ parts) ∙ eight_xor (bit_xor c b) (h * 256) ∙ ap (bit_xor (eight_steps (bit_xor c b))) (eight_high h)

as_word : (c : ℕ) (bytes : List ℕ) → AreBytes bytes → fold with_byte c bytes ≡ fold with_byte (bit_xor c (word bytes)) (replicate (length bytes) 0)
as_word c [] all = sym (ap (bit_xor c) word_nil ∙ xor_zero_r c)
as_word c (b ∷ bytes) all =
    as_word (with_byte c b) bytes all.1
    ∙ ap (λ (n : ℕ). fold with_byte n (replicate (length bytes) 0))
    (sym (with_word c b (word bytes) all.0) ∙ ap (λ (n : ℕ). with_byte (bit_xor c n) 0) (sym (word_cons b bytes)))

zeros_are_bytes : (n : ℕ) → AreBytes (replicate n 0)
zeros_are_bytes zero = tt
zeros_are_bytes (suc n) = (lit< tt, zeros_are_bytes n)

-- four bytes are 32 bits
within_1 : (bytes : List ℕ) → AreBytes bytes → length bytes ≤ 0 → word bytes < 1
within_1 [] all short = omega (arith, word_nil)
within_1 (b ∷ bytes) all short = absurd (omega arith)

within_2 : (bytes : List ℕ) → AreBytes bytes → length bytes ≤ 1 → word bytes < 256
within_2 [] all short = omega (arith, word_nil)
within_2 (b ∷ bytes) all short = omega (arith, word_cons b bytes, all.0, within_1 bytes all.1 (omega arith))

within_3 : (bytes : List ℕ) → AreBytes bytes → length bytes ≤ 2 → word bytes < 65536
within_3 [] all short = omega (arith, word_nil)
within_3 (b ∷ bytes) all short = omega (arith, word_cons b bytes, all.0, within_2 bytes all.1 (omega arith))

within_4 : (bytes : List ℕ) → AreBytes bytes → length bytes ≤ 3 → word bytes < 16777216
within_4 [] all short = omega (arith, word_nil)
within_4 (b ∷ bytes) all short = omega (arith, word_cons b bytes, all.0, within_3 bytes all.1 (omega arith))

word_within : (bytes : List ℕ) → AreBytes bytes → length bytes ≤ 4 → word bytes < 2 ^ 32
word_within [] all short = omega (arith, word_nil)
word_within (b ∷ bytes) all short = omega (arith, word_cons b bytes, all.0, within_4 bytes all.1 (omega arith))

word_same : (a b : List ℕ) → AreBytes a → AreBytes b → length a ≡ length b → word a ≡ word b → a ≡ b
word_same [] [] all_a all_b n e = refl
word_same [] (y ∷ b) all_a all_b n e = absurd (omega arith)
word_same (x ∷ a) [] all_a all_b n e = absurd (omega arith)
word_same (x ∷ a) (y ∷ b) all_a all_b n e =
    let small_x : x < 256 = all_a.0 in
    let small_y : y < 256 = all_b.0 in
    let sums : word a * 256 + x ≡ word b * 256 + y = sym (word_cons x a) ∙ e ∙ word_cons y b in
    let heads : x ≡ y = omega arith in
    let tails : word a ≡ word b = omega arith in
    let rest = word_same a b all_a.1 all_b.1 (omega arith) tails in
    cc (heads, rest)

-- ---- together

same_old : (c : ℕ) (old new : List ℕ) → c < 2 ^ 32 → AreBytes old → AreBytes new → length old ≡ length new → length old ≤ 4
    → fold with_byte c old ≡ fold with_byte c new → old ≡ new
same_old c old new small all_old all_new n short e =
    let short_new : length new ≤ 4 = omega arith in
    let zeros : fold with_byte (bit_xor c (word old)) (replicate (length old) 0) ≡ fold with_byte (bit_xor c (word new)) (replicate (length old) 0) =
    sym (as_word c old all_old) ∙ e ∙ as_word c new all_new ∙ ap (λ (k : ℕ). fold with_byte (bit_xor c (word new)) (replicate k 0)) (sym n) in
    let words : bit_xor c (word old) ≡ bit_xor c (word new) =
    bytes_same (bit_xor c (word old)) (bit_xor c (word new)) (replicate (length old) 0)
    (xor_of_32 c (word old) small (word_within old all_old short)) (xor_of_32 c (word new) small (word_within new all_new short_new))
    (zeros_are_bytes (length old)) zeros in
    word_same old new all_old all_new n (same_behind c (word old) (word new) words)

parts : (front middle behind : List ℕ) → crc_of (front ++ middle ++ behind) ≡ bit_xor all_set (fold with_byte (fold with_byte (fold with_byte all_set front) middle) behind)
unfolding crc_from
parts front middle behind =
    ap (bit_xor all_set)
    (fold-append with_byte all_set (front ++ middle) behind ∙ ap (λ (n : ℕ). fold with_byte n behind) (fold-append with_byte all_set front middle))

pub short_changes : ShortChangesShow
short_changes front old new behind all_front all_old all_new all_behind n short differ e =
    let start = fold with_byte all_set front in
    let small : start < 2 ^ 32 = bytes_within all_set front (lit< tt) all_front in
    let ends : fold with_byte (fold with_byte start old) behind ≡ fold with_byte (fold with_byte start new) behind =
    same_behind all_set (fold with_byte (fold with_byte start old) behind) (fold with_byte (fold with_byte start new) behind)
    (sym (parts front old behind) ∙ e ∙ parts front new behind) in
    let middles : fold with_byte start old ≡ fold with_byte start new =
    bytes_same (fold with_byte start old) (fold with_byte start new) behind (bytes_within start old small all_old) (bytes_within start new small all_new) all_behind ends in
    differ (same_old start old new small all_old all_new n short middles)
