-- What is written of numbers reads back.
use Rattle.std.proofs.Common.{◌≡◌, ℤ, true, refl, arith}
use Rattle.std.proofs.lemmas.Bool.{false≢true}
use Rattle.std.proofs.lemmas.Bool.Decides.{nat_tests}
use Rattle.std.proofs.lemmas.Int.{ints}
use Rattle.std.proofs.lemmas.Grind.{common_steps}
use Rattle.sbe_prim.specs.declared.Primitive.{Primitive}
use Rattle.sbe_prim.specs.declared.Primitive.TheVariants.{Char, Int8, Int16, Int32, Int64, UInt8, UInt16, UInt32, UInt64, Float, Double}
use Rattle.sbe_prim.specs.declared.Order.{Order}
use Rattle.sbe_prim.specs.declared.Order.TheVariants.{Little, Big}
use Rattle.sbe_prim.specs.Numbers.{ReadsBack}
use Rattle.sbe_grammar.specs.Canonical.{can_write}

pub again : (p : Primitive) (order : Order) (z : ℤ) → can_write p z ≡ true → ReadsBack p order z
again Char Little z h = record { number = grind (arith, ints, nat_tests, common_steps); size = refl }
again Char Big z h = record { number = grind (arith, ints, nat_tests, common_steps); size = refl }
again Int8 Little z h = record { number = grind (arith, ints, nat_tests, common_steps); size = refl }
again Int8 Big z h = record { number = grind (arith, ints, nat_tests, common_steps); size = refl }
again Int16 Little z h = record { number = grind (arith, ints, nat_tests, common_steps); size = refl }
again Int16 Big z h = record { number = grind (arith, ints, nat_tests, common_steps); size = refl }
again Int32 Little z h = record { number = grind (arith, ints, nat_tests, common_steps); size = refl }
again Int32 Big z h = record { number = grind (arith, ints, nat_tests, common_steps); size = refl }
again Int64 Little z h = record { number = grind (arith, ints, nat_tests, common_steps); size = refl }
again Int64 Big z h = record { number = grind (arith, ints, nat_tests, common_steps); size = refl }
again UInt8 Little z h = record { number = grind (arith, ints, nat_tests, common_steps); size = refl }
again UInt8 Big z h = record { number = grind (arith, ints, nat_tests, common_steps); size = refl }
again UInt16 Little z h = record { number = grind (arith, ints, nat_tests, common_steps); size = refl }
again UInt16 Big z h = record { number = grind (arith, ints, nat_tests, common_steps); size = refl }
again UInt32 Little z h = record { number = grind (arith, ints, nat_tests, common_steps); size = refl }
again UInt32 Big z h = record { number = grind (arith, ints, nat_tests, common_steps); size = refl }
again UInt64 Little z h = record { number = grind (arith, ints, nat_tests, common_steps); size = refl }
again UInt64 Big z h = record { number = grind (arith, ints, nat_tests, common_steps); size = refl }
again Float order z h = absurd (false≢true h)
again Double order z h = absurd (false≢true h)
