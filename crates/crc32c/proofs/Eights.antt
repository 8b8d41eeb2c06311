-- Several bytes taken in at once: each of them, with the register's own, goes through the steps of those behind it alone.
use Rattle.std.proofs.Common.{◌≡◌, ℕ, zero, suc, ◌/◌, ◌%◌, ◌^◌, ◌<◌, List, [], ◌∷◌, length, get_or, refl, sym, ap, ◌∙◌, arith, bit_xor}
use Rattle.std.proofs.lemmas.Nat.{xor_comm, xor_shr, xor_mod}
use Rattle.std.specs.Int.Bits.{xor_assoc, xor_zero_r}
use Rattle.std.specs.List.{fold}
use Rattle.crc32c.specs.Laws.{AreBytes}
use Rattle.crc32c.specs.Sums.{eight_steps, with_byte}
use Rattle.crc32c.specs.Tables.{steps_on}
use Rattle.crc32c.proofs.Steps.{eight_xor, looked_up}

steps_xor : (n a b : ℕ) → steps_on n (bit_xor a b) ≡ bit_xor (steps_on n a) (steps_on n b)
steps_xor zero a b = refl
steps_xor (suc n) a b = ap eight_steps (steps_xor n a b) ∙ eight_xor (steps_on n a) (steps_on n b)

steps_first : (n c : ℕ) → steps_on n (eight_steps c) ≡ steps_on (suc n) c
steps_first zero c = refl
steps_first (suc n) c = ap eight_steps (steps_first n c)

-- two registers go through bytes each for itself, one of them through zeros
swapped : (a b c : ℕ) → bit_xor (bit_xor a b) c ≡ bit_xor (bit_xor a c) b
swapped a b c = xor_assoc a b c ∙ ap (bit_xor a) (xor_comm b c) ∙ sym (xor_assoc a c b)

fold_xor : (p q : ℕ) (bytes : List ℕ) → fold with_byte (bit_xor p q) bytes ≡ bit_xor (fold with_byte p bytes) (steps_on (length bytes) q)
unfolding with_byte
fold_xor p q [] = refl
fold_xor p q (b ∷ bytes) =
    ap (λ (n : ℕ). fold with_byte n bytes) (ap eight_steps (swapped p q b) ∙ eight_xor (bit_xor p b) q)
    ∙ fold_xor (with_byte p b) (eight_steps q) bytes ∙ ap (bit_xor (fold with_byte (with_byte p b) bytes)) (steps_first (length bytes) q)

-- what is looked up of bytes that are taken in at once
abbrev pub through : ℕ → List ℕ → ℕ
through c [] = c
through c (b ∷ bytes) = bit_xor (steps_on (suc (length bytes)) (bit_xor c b % 256)) (through (c / 256) bytes)

pub taken_through : (c : ℕ) (bytes : List ℕ) → AreBytes bytes → fold with_byte c bytes ≡ through c bytes
unfolding with_byte
taken_through c [] all = refl
taken_through c (b ∷ bytes) all =
    let small : b < 256 = all.0 in
    let none : b / 2 ^ 8 ≡ 0 = omega arith in
    let high : bit_xor c b / 256 ≡ c / 256 = xor_shr c b 8 ∙ ap (bit_xor (c / 256)) none ∙ xor_zero_r (c / 256) in
    let low = bit_xor c b % 256 in
    ap (λ (n : ℕ). fold with_byte n bytes) (looked_up (bit_xor c b) ∙ ap (λ (n : ℕ). bit_xor n (eight_steps low)) high)
    ∙ fold_xor (c / 256) (eight_steps low) bytes
    ∙ ap (bit_xor (fold with_byte (c / 256) bytes)) (steps_first (length bytes) low)
    ∙ xor_comm (fold with_byte (c / 256) bytes) (steps_on (suc (length bytes)) low)
    ∙ ap (bit_xor (steps_on (suc (length bytes)) low)) (taken_through (c / 256) bytes all.1)

-- the byte at a place of a register
low_byte_of : (c b : ℕ) → b < 256 → bit_xor c b % 256 ≡ bit_xor (c % 256) b
low_byte_of c b small =
    let same : b % 2 ^ 8 ≡ b = omega arith in
    xor_mod c b 8 ∙ ap (bit_xor (c % 256)) same

all_bytes : (bytes : List ℕ) → ((i : ℕ) → get_or bytes i 0 < 256) → AreBytes bytes
all_bytes [] fits = tt
all_bytes (b ∷ bytes) fits = (fits 0, all_bytes bytes (λ i. fits (suc i)))

-- eight bytes: the first four meet those of the register
eight_looked_up : (c : ℕ) (bytes : List ℕ) → length bytes ≡ 8 → ((i : ℕ) → get_or bytes i 0 < 256) → c < 2 ^ 32
    → fold with_byte c bytes
    ≡ bit_xor (steps_on 8 (bit_xor (c % 256) (get_or bytes 0 0)))
    (bit_xor (steps_on 7 (bit_xor (c / 256 % 256) (get_or bytes 1 0)))
    (bit_xor (steps_on 6 (bit_xor (c / 65536 % 256) (get_or bytes 2 0)))
    (bit_xor (steps_on 5 (bit_xor (c / 16777216 % 256) (get_or bytes 3 0)))
    (bit_xor (steps_on 4 (get_or bytes 4 0))
    (bit_xor (steps_on 3 (get_or bytes 5 0)) (bit_xor (steps_on 2 (get_or bytes 6 0)) (steps_on 1 (get_or bytes 7 0))))))))
eight_looked_up c (b0 ∷ b1 ∷ b2 ∷ b3 ∷ b4 ∷ b5 ∷ b6 ∷ b7 ∷ []) size fits small =
    let all = all_bytes (b0 ∷ b1 ∷ b2 ∷ b3 ∷ b4 ∷ b5 ∷ b6 ∷ b7 ∷ []) fits in
    let at2 : c / 256 / 256 ≡ c / 65536 = omega arith in
    let at3 : c / 256 / 256 / 256 ≡ c / 16777216 = omega arith in
    let none : c / 256 / 256 / 256 / 256 ≡ 0 = omega arith in
    let e0 : bit_xor c b0 % 256 ≡ bit_xor (c % 256) b0 = low_byte_of c b0 all.0 in
    let e1 : bit_xor (c / 256) b1 % 256 ≡ bit_xor (c / 256 % 256) b1 = low_byte_of (c / 256) b1 all.1.0 in
    let e2 : bit_xor (c / 256 / 256) b2 % 256 ≡ bit_xor (c / 65536 % 256) b2 = low_byte_of (c / 256 / 256) b2 all.1.1.0 ∙ ap (λ (n : ℕ). bit_xor (n % 256) b2) at2 in
    let e3 : bit_xor (c / 256 / 256 / 256) b3 % 256 ≡ bit_xor (c / 16777216 % 256) b3 = low_byte_of (c / 256 / 256 / 256) b3 all.1.1.1.0 ∙ ap (λ (n : ℕ). bit_xor (n % 256) b3) at3 in
    let e4 : b4 % 256 ≡ b4 = let s : b4 < 256 = all.1.1.1.1.0 in omega arith in
    let e5 : b5 % 256 ≡ b5 = let s : b5 < 256 = all.1.1.1.1.1.0 in omega arith in
    let e6 : b6 % 256 ≡ b6 = let s : b6 < 256 = all.1.1.1.1.1.1.0 in omega arith in
    let e7 : b7 % 256 ≡ b7 = let s : b7 < 256 = all.1.1.1.1.1.1.1.0 in omega arith in
    taken_through c (b0 ∷ b1 ∷ b2 ∷ b3 ∷ b4 ∷ b5 ∷ b6 ∷ b7 ∷ []) all
    ∙ rw (e0, e1, e2, e3, none, e4, e5, e6, e7, xor_zero_r (steps_on 1 b7)) refl
eight_looked_up c [] size fits small = absurd (omega arith)
eight_looked_up c (b0 ∷ []) size fits small = absurd (omega arith)
eight_looked_up c (b0 ∷ b1 ∷ []) size fits small = absurd (omega arith)
eight_looked_up c (b0 ∷ b1 ∷ b2 ∷ []) size fits small = absurd (omega arith)
eight_looked_up c (b0 ∷ b1 ∷ b2 ∷ b3 ∷ []) size fits small = absurd (omega arith)
eight_looked_up c (b0 ∷ b1 ∷ b2 ∷ b3 ∷ b4 ∷ []) size fits small = absurd (omega arith)
eight_looked_up c (b0 ∷ b1 ∷ b2 ∷ b3 ∷ b4 ∷ b5 ∷ []) size fits small = absurd (omega arith)
eight_looked_up c (b0 ∷ b1 ∷ b2 ∷ b3 ∷ b4 ∷ b5 ∷ b6 ∷ []) size fits small = absurd (omega arith)
eight_looked_up c (b0 ∷ b1 ∷ b2 ∷ b3 ∷ b4 ∷ b5 ∷ b6 ∷ b7 ∷ b8 ∷ more) size fits small = absurd (omega arith)

-- and as they are taken together, one behind another
in_a_row : (a b c d e f g h : ℕ)
    → bit_xor (bit_xor (bit_xor (bit_xor (bit_xor (bit_xor (bit_xor a b) c) d) e) f) g) h
    ≡ bit_xor a (bit_xor b (bit_xor c (bit_xor d (bit_xor e (bit_xor f (bit_xor g h))))))
in_a_row a b c d e f g h =
    let gh = bit_xor g h in
    let fh = bit_xor f gh in
    let eh = bit_xor e fh in
    let dh = bit_xor d eh in
    let ab = bit_xor a b in
    let ac = bit_xor ab c in
    let ad = bit_xor ac d in
    let ae = bit_xor ad e in
    let af = bit_xor ae f in
    xor_assoc af g h ∙ xor_assoc ae f gh ∙ xor_assoc ad e fh ∙ xor_assoc ac d eh ∙ xor_assoc ab c dh ∙ xor_assoc a b (bit_xor c dh)

pub eight_at_once : (c : ℕ) (bytes : List ℕ) → length bytes ≡ 8 → ((i : ℕ) → get_or bytes i 0 < 256) → c < 2 ^ 32
    → bit_xor (bit_xor (bit_xor (bit_xor (bit_xor (bit_xor (bit_xor
    (steps_on 8 (bit_xor (c % 256) (get_or bytes 0 0)))
    (steps_on 7 (bit_xor (c / 256 % 256) (get_or bytes 1 0))))
    (steps_on 6 (bit_xor (c / 65536 % 256) (get_or bytes 2 0))))
    (steps_on 5 (bit_xor (c / 16777216 % 256) (get_or bytes 3 0))))
    (steps_on 4 (get_or bytes 4 0)))
    (steps_on 3 (get_or bytes 5 0)))
    (steps_on 2 (get_or bytes 6 0)))
    (steps_on 1 (get_or bytes 7 0))
    ≡ fold with_byte c bytes
eight_at_once c bytes size fits small =
    in_a_row
    (steps_on 8 (bit_xor (c % 256) (get_or bytes 0 0)))
    (steps_on 7 (bit_xor (c / 256 % 256) (get_or bytes 1 0)))
    (steps_on 6 (bit_xor (c / 65536 % 256) (get_or bytes 2 0)))
    (steps_on 5 (bit_xor (c / 16777216 % 256) (get_or bytes 3 0)))
    (steps_on 4 (get_or bytes 4 0))
    (steps_on 3 (get_or bytes 5 0))
    (steps_on 2 (get_or bytes 6 0))
    (steps_on 1 (get_or bytes 7 0))
    ∙ sym (eight_looked_up c bytes size fits small)
