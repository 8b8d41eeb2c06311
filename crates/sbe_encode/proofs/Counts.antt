-- Lengths and counts: of groups, and of what a primitive writes.
use Rattle.std.proofs.Common.{◌≡◌, ℕ, ◌+◌, ◌-◌, ◌/◌, ◌<◌, ◌≤◌, ◌^◌, pos, true, List, [], ◌∷◌, ◌++◌, length, take, replicate, refl, ap, ◌∙◌, append_assoc, arith}
use Rattle.std.proofs.lemmas.Bool.{false≢true}
use Rattle.std.proofs.lemmas.Bool.Decides.{nat_tests}
use Rattle.std.proofs.lemmas.Int.{ints}
use Rattle.std.proofs.Math.Nat.{div-eq_of_lt}
use Rattle.std.proofs.Math.Pow.{pow_mono}
use Rattle.std.proofs.lemmas.List.{replicate-append-replicate, take-replicate}
use Rattle.sbe_prim.specs.declared.Primitive.{Primitive}
use Rattle.sbe_prim.specs.declared.Primitive.TheVariants.{Char, Int8, Int16, Int32, Int64, UInt8, UInt16, UInt32, UInt64, Float, Double}
use Rattle.sbe_layout.specs.declared.blocks.GroupPlan.{GroupPlan}
use Rattle.sbe_layout.specs.Views.{plans_of}
use Rattle.sbe_grammar.specs.Canonical.{can_write, without_bit, zeros}
use Rattle.sbe_encode.specs.Faults.{count_of_plans}

pub length_of_plans : (gs : List GroupPlan) → count_of_plans (plans_of gs) ≡ length gs
length_of_plans [] = refl
length_of_plans (g ∷ gs) = omega (arith, length_of_plans gs)

-- what a primitive writes is below 2 ^ 64
pub written_small : (p : Primitive) (n : ℕ) → can_write p (pos n) ≡ true → n < 2 ^ 64
written_small Char n h = grind (arith, ints, nat_tests)
written_small Int8 n h = grind (arith, ints, nat_tests)
written_small Int16 n h = grind (arith, ints, nat_tests)
written_small Int32 n h = grind (arith, ints, nat_tests)
written_small Int64 n h = grind (arith, ints, nat_tests)
written_small UInt8 n h = grind (arith, ints, nat_tests)
written_small UInt16 n h = grind (arith, ints, nat_tests)
written_small UInt32 n h = grind (arith, ints, nat_tests)
written_small UInt64 n h = grind (arith, ints, nat_tests)
written_small Float n h = absurd (false≢true h)
written_small Double n h = absurd (false≢true h)

-- a number below 2 ^ 127 has no bit from the 127th on
pub without_high : (bit n : ℕ) → n < 2 ^ 127 → 127 ≤ bit → n ≡ without_bit bit n
without_high bit n h over =
    let grows : 2 ^ 127 ≤ 2 ^ bit = pow_mono over in
    let small : n < 2 ^ bit = omega arith in
    let none : n / 2 ^ bit ≡ 0 = div-eq_of_lt small in
    rw none refl

-- zeros behind others
pub more_zeros : (xs : List ℕ) (left : ℕ) → 64 ≤ left → (xs ++ zeros 64) ++ zeros (left - 64) ≡ xs ++ zeros left
more_zeros xs left h =
    let all : 64 + (left - 64) ≡ left = omega arith in
    append_assoc xs (zeros 64) (zeros (left - 64))
    ∙ ap (λ ys. xs ++ ys) (replicate-append-replicate 64 (left - 64) 0 ∙ ap (λ n. replicate n 0) all)

pub last_zeros : (n : ℕ) → n ≤ 64 → take n (zeros 64) ≡ zeros n
last_zeros n h = take-replicate n 64 0 h
