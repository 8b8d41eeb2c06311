-- Bytes that were read are written again: one fact for each width and order, and then one for each primitive.
use Rattle.std.proofs.Common.{◌≡◌, ℕ, ◌<◌, ◌^◌, List, length, get_or, IsTrue, refl, ap, ◌∙◌, arith}
use Rattle.std.proofs.lemmas.Bool.{false≢true}
use Rattle.std.proofs.lemmas.Bool.Decides.{nat_tests}
use Rattle.std.proofs.lemmas.Int.{ints, of_z-to_z}
use Rattle.std.proofs.lemmas.Nat.{le_bytes_2, le_bytes_4, le_bytes_8, be_bytes_2, be_bytes_4, be_bytes_8}
use Rattle.std.specs.Int.{Width, w8, w16, w32, w64, cast_signed, cast_unsigned}
use Rattle.std.proofs.lemmas.Grind.{common_steps}
use Rattle.sbe_prim.specs.declared.Primitive.{Primitive}
use Rattle.sbe_prim.specs.declared.Primitive.TheVariants.{Char, Int8, Int16, Int32, Int64, UInt8, UInt16, UInt32, UInt64, Float, Double}
use Rattle.sbe_prim.specs.declared.Order.{Order}
use Rattle.sbe_prim.specs.declared.Order.TheVariants.{Little, Big}
use Rattle.sbe_prim.specs.Primitives.{size_of, is_integer}
use Rattle.sbe_prim.specs.Numbers.{magnitude_of, spelled, WritesBack}

-- the magnitude fits the width, and its bytes are those that it was read from
record Again (w : Width) (order : Order) (bytes : List ℕ) (limit : ℕ) : Type 0 where
  below : magnitude_of w order bytes < limit
  bytes_again : spelled w order (magnitude_of w order bytes) ≡ bytes

again_1 : (order : Order) (bs : List ℕ) → length bs ≡ 1 → ((i : ℕ) → get_or bs i 0 < 256) → Again w8 order bs (2 ^ 8)
again_1 Little bs l h = record { below = omega (arith, h 0); bytes_again = grind (arith, common_steps, h 0) }
again_1 Big bs l h = record { below = omega (arith, h 0); bytes_again = grind (arith, common_steps, h 0) }

again_2 : (order : Order) (bs : List ℕ) → length bs ≡ 2 → ((i : ℕ) → get_or bs i 0 < 256) → Again w16 order bs (2 ^ 16)
again_2 Little bs l h = record { below = omega (arith, h 0, h 1); bytes_again = le_bytes_2 bs _ l h refl }
again_2 Big bs l h = record { below = omega (arith, h 0, h 1); bytes_again = be_bytes_2 bs _ l h refl }

again_4 : (order : Order) (bs : List ℕ) → length bs ≡ 4 → ((i : ℕ) → get_or bs i 0 < 256) → Again w32 order bs (2 ^ 32)
again_4 Little bs l h = record { below = omega (arith, h 0, h 1, h 2, h 3); bytes_again = le_bytes_4 bs _ l h refl }
again_4 Big bs l h = record { below = omega (arith, h 0, h 1, h 2, h 3); bytes_again = be_bytes_4 bs _ l h refl }

again_8 : (order : Order) (bs : List ℕ) → length bs ≡ 8 → ((i : ℕ) → get_or bs i 0 < 256) → Again w64 order bs (2 ^ 64)
again_8 Little bs l h = record { below = omega (arith, h 0, h 1, h 2, h 3, h 4, h 5, h 6, h 7); bytes_again = le_bytes_8 bs _ l h refl }
again_8 Big bs l h = record { below = omega (arith, h 0, h 1, h 2, h 3, h 4, h 5, h 6, h 7); bytes_again = be_bytes_8 bs _ l h refl }

-- the same for two's complement: what is read as signed is written as it was
signed : (w : Width) (limit : ℕ) (order : Order) (bs : List ℕ) (n : ℕ) → n ≡ magnitude_of w order bs → cast_unsigned w (cast_signed w n) ≡ n → Again w order bs limit → spelled w order (cast_unsigned w (cast_signed w n)) ≡ bs
signed w limit order bs n e same again = ap (spelled w order) (same ∙ e) ∙ again.bytes_again

pub again_of : (p : Primitive) (order : Order) (bs : List ℕ) → IsTrue (is_integer p) → length bs ≡ size_of p → ((i : ℕ) → get_or bs i 0 < 256) → WritesBack p order bs
again_of Char order bs i l h = let a = again_1 order bs l h in record { held = grind (arith, ints, nat_tests, a.below); bytes_again = a.bytes_again }
again_of UInt8 order bs i l h = let a = again_1 order bs l h in record { held = grind (arith, ints, nat_tests, a.below); bytes_again = a.bytes_again }
again_of UInt16 order bs i l h = let a = again_2 order bs l h in record { held = grind (arith, ints, nat_tests, a.below); bytes_again = a.bytes_again }
again_of UInt32 order bs i l h = let a = again_4 order bs l h in record { held = grind (arith, ints, nat_tests, a.below); bytes_again = a.bytes_again }
again_of UInt64 order bs i l h = let a = again_8 order bs l h in record { held = grind (arith, ints, nat_tests, a.below); bytes_again = a.bytes_again }
again_of Int8 order bs i l h = let a = again_1 order bs l h in record { held = grind (arith, ints, nat_tests, a.below); bytes_again = signed w8 _ order bs _ refl (of_z-to_z w8 _ a.below) a }
again_of Int16 order bs i l h = let a = again_2 order bs l h in record { held = grind (arith, ints, nat_tests, a.below); bytes_again = signed w16 _ order bs _ refl (of_z-to_z w16 _ a.below) a }
again_of Int32 order bs i l h = let a = again_4 order bs l h in record { held = grind (arith, ints, nat_tests, a.below); bytes_again = signed w32 _ order bs _ refl (of_z-to_z w32 _ a.below) a }
again_of Int64 order bs i l h = let a = again_8 order bs l h in record { held = grind (arith, ints, nat_tests, a.below); bytes_again = signed w64 _ order bs _ refl (of_z-to_z w64 _ a.below) a }
again_of Float order bs i l h = absurd (false≢true i)
again_of Double order bs i l h = absurd (false≢true i)
