-- What steps make of registers: they are linear, the bits above the low byte go through eight of them unchanged, and a register of 32
-- bits tells the one before it.
use Rattle.std.proofs.Common.{◌≡◌, ℕ, zero, suc, ◌+◌, ◌-◌, ◌*◌, ◌/◌, ◌%◌, ◌^◌, ◌<◌, refl, sym, ap, ◌∙◌, arith, bit_and, bit_xor, lit<}
use Rattle.std.proofs.lemmas.Nat.{xor_comm, xor_shr, xor_mod, xor_block, xor_of_32, and_mask, and_comm}
use Rattle.std.specs.Int.Bits.{xor_assoc, xor_self, xor_zero_r, xor_add_and}
use Rattle.crc32c.specs.Sums.{polynomial, all_set, stepped, eight_steps, with_byte}

-- ---- exclusive or

pub cancelled : (a x : ℕ) → bit_xor a (bit_xor a x) ≡ x
cancelled a x = sym (xor_assoc a a x) ∙ ap (λ (n : ℕ). bit_xor n x) (xor_self a)

pub same_behind : (a x y : ℕ) → bit_xor a x ≡ bit_xor a y → x ≡ y
same_behind a x y e = sym (cancelled a x) ∙ ap (bit_xor a) e ∙ cancelled a y

pub same_before : (a x y : ℕ) → bit_xor x a ≡ bit_xor y a → x ≡ y
same_before a x y e = same_behind a x y (xor_comm a x ∙ e ∙ xor_comm y a)

-- the inner two change places
pub crossed : (p q r s : ℕ) → bit_xor (bit_xor p q) (bit_xor r s) ≡ bit_xor (bit_xor p r) (bit_xor q s)
crossed p q r s =
    xor_assoc p q (bit_xor r s)
    ∙ ap (bit_xor p) (sym (xor_assoc q r s) ∙ ap (λ (n : ℕ). bit_xor n s) (xor_comm q r) ∙ xor_assoc r q s)
    ∙ sym (xor_assoc p r (bit_xor q s))

-- the complement of 32 bits
pub complement : (n : ℕ) → n < 2 ^ 32 → 2 ^ 32 - 1 - n ≡ bit_xor all_set n
complement n small =
    let low : bit_and all_set n ≡ n % 2 ^ 32 = and_comm all_set n ∙ and_mask n 32 in
    omega (arith, low, xor_add_and all_set n)

-- a byte below the bytes of a number
pub low_byte : (x h : ℕ) → x < 256 → h * 256 + x ≡ bit_xor (h * 256) x
low_byte x h small =
    let cut : bit_xor (h * 2 ^ 8 + 0) (0 * 2 ^ 8 + x) ≡ bit_xor h 0 * 2 ^ 8 + bit_xor 0 x = xor_block 8 h 0 0 x (lit< tt) small in
    let left : h * 2 ^ 8 + 0 ≡ h * 256 = omega arith in
    let right : 0 * 2 ^ 8 + x ≡ x = omega arith in
    ap (λ (n : ℕ). n * 256 + x) (sym (xor_zero_r h)) ∙ sym cut ∙ ap (λ (n : ℕ). bit_xor n (0 * 2 ^ 8 + x)) left ∙ ap (bit_xor (h * 256)) right

-- ---- steps are linear

taken_off : (x y : ℕ) → x < 2 → y < 2 → bit_xor x y * polynomial ≡ bit_xor (x * polynomial) (y * polynomial)
taken_off zero y small_x small_y = refl
taken_off (suc zero) zero small_x small_y = refl
taken_off (suc zero) (suc zero) small_x small_y = refl
taken_off (suc zero) (suc (suc y)) small_x small_y = absurd (omega arith)
taken_off (suc (suc x)) y small_x small_y = absurd (omega arith)

pub stepped_xor : (a b : ℕ) → stepped (bit_xor a b) ≡ bit_xor (stepped a) (stepped b)
unfolding stepped
stepped_xor a b =
    let bits : bit_xor a b % 2 * polynomial ≡ bit_xor (a % 2 * polynomial) (b % 2 * polynomial) =
    ap (λ (n : ℕ). n * polynomial) (xor_mod a b 1) ∙ taken_off (a % 2) (b % 2) (omega arith) (omega arith) in
    ap (λ (n : ℕ). bit_xor n (bit_xor a b % 2 * polynomial)) (xor_shr a b 1)
    ∙ ap (bit_xor (bit_xor (a / 2) (b / 2))) bits
    ∙ crossed (a / 2) (b / 2) (a % 2 * polynomial) (b % 2 * polynomial)

pub eight_xor : (a b : ℕ) → eight_steps (bit_xor a b) ≡ bit_xor (eight_steps a) (eight_steps b)
unfolding eight_steps
eight_xor a b = simp stepped_xor refl

-- ---- what stands above the low byte

stepped_even : (h : ℕ) → stepped (h * 2) ≡ h
unfolding stepped
stepped_even h =
    let half : h * 2 / 2 ≡ h = omega arith in
    let rest : h * 2 % 2 ≡ 0 = omega arith in
    ap (λ (n : ℕ). bit_xor n (h * 2 % 2 * polynomial)) half ∙ ap (λ (n : ℕ). bit_xor h (n * polynomial)) rest ∙ xor_zero_r h

eight_even : (h : ℕ) → eight_steps (h * 2 * 2 * 2 * 2 * 2 * 2 * 2 * 2) ≡ h
unfolding eight_steps
eight_even h = simp stepped_even refl

pub eight_high : (h : ℕ) → eight_steps (h * 256) ≡ h
eight_high h =
    let twos : h * 256 ≡ h * 2 * 2 * 2 * 2 * 2 * 2 * 2 * 2 = omega arith in ap eight_steps twos ∙ eight_even h

-- the law of the table
pub looked_up : (c : ℕ) → eight_steps c ≡ bit_xor (c / 256) (eight_steps (c % 256))
looked_up c =
    let whole : c ≡ c / 256 * 256 + c % 256 = omega arith in
    ap eight_steps (whole ∙ low_byte (c % 256) (c / 256) (omega arith))
    ∙ eight_xor (c / 256 * 256) (c % 256)
    ∙ ap (λ (n : ℕ). bit_xor n (eight_steps (c % 256))) (eight_high (c / 256))

-- a byte taken in by it
pub taken_in : (c byte : ℕ) → byte < 256 → bit_xor (c / 256) (eight_steps (bit_and (bit_xor c byte) 255)) ≡ with_byte c byte
unfolding with_byte
taken_in c byte small =
    let none : byte / 2 ^ 8 ≡ 0 = omega arith in
    let high : bit_xor c byte / 256 ≡ c / 256 = xor_shr c byte 8 ∙ ap (bit_xor (c / 256)) none ∙ xor_zero_r (c / 256) in
    sym (looked_up (bit_xor c byte)
    ∙ ap (λ (n : ℕ). bit_xor n (eight_steps (bit_xor c byte % 256))) high
    ∙ ap (λ (n : ℕ). bit_xor (c / 256) (eight_steps n)) (sym (and_mask (bit_xor c byte) 8)))

-- ---- a register tells the one before it

pub stepped_within : (c : ℕ) → c < 2 ^ 32 → stepped c < 2 ^ 32
unfolding stepped
stepped_within c small = xor_of_32 (c / 2) (c % 2 * polynomial) (omega arith) (omega arith)

-- the highest bit is the one that went out
top_bit : (c : ℕ) → c < 2 ^ 32 → stepped c / 2 ^ 31 ≡ c % 2
unfolding stepped
top_bit c small =
    let none : c / 2 / 2 ^ 31 ≡ 0 = omega arith in
    let out : c % 2 * polynomial / 2 ^ 31 ≡ c % 2 = omega arith in
    xor_shr (c / 2) (c % 2 * polynomial) 31 ∙ ap (λ (n : ℕ). bit_xor n (c % 2 * polynomial / 2 ^ 31)) none ∙ out

stepped_same : (a b : ℕ) → a < 2 ^ 32 → b < 2 ^ 32 → stepped a ≡ stepped b → a ≡ b
unfolding stepped
stepped_same a b small_a small_b e =
    let low : a % 2 ≡ b % 2 = sym (top_bit a small_a) ∙ ap (λ (n : ℕ). n / 2 ^ 31) e ∙ top_bit b small_b in
    let high : a / 2 ≡ b / 2 = same_before (b % 2 * polynomial) (a / 2) (b / 2) (ap (λ (n : ℕ). bit_xor (a / 2) (n * polynomial)) (sym low) ∙ e) in
    omega (arith, low, high)

-- and so in eight of them
record Both (a b : ℕ) : Type 0 where
  a_within : a < 2 ^ 32
  b_within : b < 2 ^ 32

both_step : (a b : ℕ) → Both a b → Both (stepped a) (stepped b)
both_step a b are = record { a_within = stepped_within a are.a_within; b_within = stepped_within b are.b_within }

pub eight_within : (c : ℕ) → c < 2 ^ 32 → eight_steps c < 2 ^ 32
unfolding eight_steps
eight_within c small =
    stepped_within _ (stepped_within _ (stepped_within _ (stepped_within _ (stepped_within _ (stepped_within _ (stepped_within _ (stepped_within c small)))))))

same_four : (a b : ℕ) → Both a b → stepped (stepped (stepped (stepped a))) ≡ stepped (stepped (stepped (stepped b))) → a ≡ b
same_four a b are e =
    let one = both_step a b are in
    let two = both_step (stepped a) (stepped b) one in
    let three = both_step (stepped (stepped a)) (stepped (stepped b)) two in
    let e3 = stepped_same (stepped (stepped (stepped a))) (stepped (stepped (stepped b))) three.a_within three.b_within e in
    let e2 = stepped_same (stepped (stepped a)) (stepped (stepped b)) two.a_within two.b_within e3 in
    let e1 = stepped_same (stepped a) (stepped b) one.a_within one.b_within e2 in
    stepped_same a b are.a_within are.b_within e1

four_within : (a b : ℕ) → Both a b → Both (stepped (stepped (stepped (stepped a)))) (stepped (stepped (stepped (stepped b))))
four_within a b are = both_step _ _ (both_step _ _ (both_step _ _ (both_step a b are)))

pub eight_same : (a b : ℕ) → a < 2 ^ 32 → b < 2 ^ 32 → eight_steps a ≡ eight_steps b → a ≡ b
unfolding eight_steps
eight_same a b small_a small_b e =
    let are : Both a b = record { a_within = small_a; b_within = small_b } in
    same_four a b are (same_four (stepped (stepped (stepped (stepped a)))) (stepped (stepped (stepped (stepped b)))) (four_within a b are) e)
