-- The tests of equality are true exactly of equal values.
use Rattle.std.specs.Prelude.{◌≡◌, ℕ, true, List, refl, nat_eq}
use Rattle.std.proofs.Common.{ap, Decides}
use Rattle.std.proofs.lemmas.Bool.{false≢true}
use Rattle.std.proofs.lemmas.Bool.Decides.{Decides-eqb, Decides-int_eq}
use Rattle.std.specs.Cmp.Lexicographic.{pointwise, pointwise_decides}
use Rattle.lists.specs.Exact.{exact}
use Rattle.sbe_value.specs.declared.item.Item.{Item}
use Rattle.sbe_value.specs.declared.item.Item.TheVariants.{Num, Null, Text, Raw, Absent as NoItem}
use Rattle.sbe_value.specs.declared.datum.Datum.{Datum}
use Rattle.sbe_value.specs.declared.datum.Datum.TheVariants.{Present, Absent as NoDatum}
use Rattle.sbe_value.specs.declared.path.Step.{Step}
use Rattle.sbe_value.specs.declared.path.Step.TheVariants.{Key, At}
use Rattle.sbe_value.specs.Equal.{item_eq, datum_eq, step_eq}

pub bytes_exact : (x y : List ℕ) → Decides (pointwise nat_eq x y) (x ≡ y)
bytes_exact = pointwise_decides Decides-eqb

item_itself : (x : Item) → item_eq x x ≡ true
item_itself (Num a) = (Decides-int_eq a a).1 refl
item_itself Null = refl
item_itself NoItem = refl
item_itself (Text a) = (bytes_exact a a).1 refl
item_itself (Raw a) = (bytes_exact a a).1 refl

item_only : (x y : Item) → item_eq x y ≡ true → x ≡ y
item_only (Num a) (Num b) t = ap Num ((Decides-int_eq a b).0 t)
item_only Null Null t = refl
item_only NoItem NoItem t = refl
item_only (Text a) (Text b) t = ap Text ((bytes_exact a b).0 t)
item_only (Raw a) (Raw b) t = ap Raw ((bytes_exact a b).0 t)
item_only _ _ t = absurd (false≢true t)

pub item_exact : (x y : Item) → Decides (item_eq x y) (x ≡ y)
item_exact = exact item_eq item_itself item_only

datum_itself : (x : Datum) → datum_eq x x ≡ true
datum_itself NoDatum = refl
datum_itself (Present a) = (bytes_exact a a).1 refl

datum_only : (x y : Datum) → datum_eq x y ≡ true → x ≡ y
datum_only NoDatum NoDatum t = refl
datum_only (Present a) (Present b) t = ap Present ((bytes_exact a b).0 t)
datum_only _ _ t = absurd (false≢true t)

pub datum_exact : (x y : Datum) → Decides (datum_eq x y) (x ≡ y)
datum_exact = exact datum_eq datum_itself datum_only

step_itself : (x : Step) → step_eq x x ≡ true
step_itself (Key a) = (bytes_exact a a).1 refl
step_itself (At a) = (Decides-eqb a a).1 refl

step_only : (x y : Step) → step_eq x y ≡ true → x ≡ y
step_only (Key a) (Key b) t = ap Key ((bytes_exact a b).0 t)
step_only (At a) (At b) t = ap At ((Decides-eqb a b).0 t)
step_only _ _ t = absurd (false≢true t)

pub step_exact : (x y : Step) → Decides (step_eq x y) (x ≡ y)
step_exact = exact step_eq step_itself step_only
