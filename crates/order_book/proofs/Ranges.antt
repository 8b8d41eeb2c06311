-- What is reported, and what rests, lies within its ranges.
use Rattle.std.proofs.Common.{◌≡◌, ℕ, zero, suc, ◌-◌, ◌<◌, ◌≤◌, ◌^◌, min, ◌==◌, ℤ, pos, Bool, true, false, Option, Some, None, Result, Ok, Err, List, [], ◌∷◌, ◌++◌, length, cond, refl, ap, sym, subst, arith, flat_map}
use Rattle.std.specs.Prelude.{IfSome, option_map, is_some}
use Rattle.std.specs.List.{AllByRecursion}
use Rattle.std.proofs.lemmas.Int.{ints}
use Rattle.session_model.proofs.Lists.{all_append}
use Rattle.order_desk.specs.declared.order.Order.{Order}
use Rattle.order_desk.specs.declared.order.Order.TheVariants.{New, Cancel}
use Rattle.order_desk.specs.declared.order.NewOrder.{NewOrder}
use Rattle.order_desk.specs.declared.order.Side.{Side}
use Rattle.order_desk.specs.declared.report.RejectCode.{RejectCode}
use Rattle.order_desk.specs.declared.report.RejectCode.TheVariants as code
use Rattle.order_desk.specs.Orders.{order_in}
use Rattle.order_desk.specs.Reports.{InRange, refusal_of, refused, reports_by}
use Rattle.order_desk.specs.Reports as desk
use Rattle.order_desk.specs.Laws.{ReportsInRange}
use Rattle.order_book.specs.declared.entries.BookOrder.{BookOrder}
use Rattle.order_book.specs.declared.entries.Fill.{Fill}
use Rattle.order_book.specs.Book.{meets, beats, better_of, best, order_with, with_left, settled, all_settled, without, fill_of, next_fill, in_front, fills, fills_of, left_of, filled, both_filled, on_side, unless_refused, admitted, reports_of_new, reports_of_cancel, reports_of, book_with, book_after}
use Rattle.order_book.specs.Laws.{IsRested, BookInRange}

abbrev Rested : List BookOrder → Type 0
Rested rs = AllByRecursion IsRested rs

-- a match lies within the ranges of a report on it
abbrev IsFill : Fill → Type 0
IsFill f = InRange (filled f.cl_id f)

refused_ranged : (id : ℕ) (why : RejectCode) → id < 2 ^ 64 - 1 → InRange (refused 1 id why)
refused_ranged id why i = record { id = i; number = omega arith; count = omega arith; least = omega (arith, ints); most = omega (arith, ints) }

-- ---- of some orders, one

one_of : (b : Bool) (x : BookOrder) (rest : Option BookOrder) → IsRested x → IfSome rest IsRested → IfSome (cond b (Some x) rest) IsRested
one_of true x rest k h = k
one_of false x rest k h = h

found_rested : (id : ℕ) (rs : List BookOrder) → Rested rs → IfSome (order_with id rs) IsRested
found_rested id [] a = tt
found_rested id (x ∷ xs) a = one_of (x.cl_id == id) x (order_with id xs) a.0 (found_rested id xs a.1)

better : (x : BookOrder) (later : Option BookOrder) → IsRested x → IfSome later IsRested → IsRested (better_of x later)
better x None k h = k
better x (Some y) k h = choose (beats y x)
  where
    choose : (b : Bool) → IsRested (cond b y x)
    choose true = h
    choose false = k

best_rested : (o : BookOrder) (rs : List BookOrder) → Rested rs → IfSome (best o rs) IsRested
best_rested o [] a = tt
best_rested o (x ∷ xs) a = one_of (meets o x) (better_of x (best o xs)) (best o xs) (better x (best o xs) a.0 (best_rested o xs a.1)) (best_rested o xs a.1)

-- ---- what rests behind

left_by : (b : Bool) (o : BookOrder) (left : ℕ) → IsRested o → left ≤ o.quantity → Rested (cond b [] (record o { quantity = left } ∷ []))
left_by true o left k least = tt
left_by false o left k least = (record { id = k.id; number = k.number; count = omega (arith, least, k.count); least = k.least; most = k.most }, tt)

left_rested : (o : BookOrder) (left : ℕ) → IsRested o → left ≤ o.quantity → Rested (with_left o left)
left_rested o left k least = left_by (left == 0) o left k least

settled_by : (b : Bool) (f : Fill) (x : BookOrder) (xs later : List BookOrder) → IsRested x → Rested xs → Rested later → Rested (cond b (with_left x (x.quantity - f.quantity) ++ xs) (x ∷ later))
settled_by true f x xs later k a h = all_append IsRested (with_left x (x.quantity - f.quantity)) xs (left_rested x (x.quantity - f.quantity) k (omega arith)) a
settled_by false f x xs later k a h = (k, h)

settled_rested : (f : Fill) (rs : List BookOrder) → Rested rs → Rested (settled f rs)
settled_rested f [] a = tt
settled_rested f (x ∷ xs) a = settled_by (x.cl_id == f.cl_id) f x xs (settled f xs) a.0 a.1 (settled_rested f xs a.1)

all_rested : (fs : List Fill) (rs : List BookOrder) → Rested rs → Rested (all_settled fs rs)
all_rested [] rs a = a
all_rested (f ∷ fs) rs a = all_rested fs (settled f rs) (settled_rested f rs a)

without_by : (b : Bool) (x : BookOrder) (xs later : List BookOrder) → IsRested x → Rested xs → Rested later → Rested (cond b xs (x ∷ later))
without_by true x xs later k a h = a
without_by false x xs later k a h = (k, h)

without_rested : (id : ℕ) (rs : List BookOrder) → Rested rs → Rested (without id rs)
without_rested id [] a = tt
without_rested id (x ∷ xs) a = without_by (x.cl_id == id) x xs (without id xs) a.0 a.1 (without_rested id xs a.1)

-- ---- matches

fill_ranged : (left : ℕ) (r : Option BookOrder) → IfSome r IsRested → IfSome (option_map (fill_of left) r) IsFill
fill_ranged left None h = tt
fill_ranged left (Some r) k = record { id = k.id; number = k.number; count = omega (arith, k.count); least = k.least; most = k.most }

next_by : (b : Bool) (x : Option Fill) → IfSome x IsFill → IfSome (cond b None x) IsFill
next_by true x h = tt
next_by false x h = h

next_ranged : (o : BookOrder) (left : ℕ) (rs : List BookOrder) → Rested rs → IfSome (next_fill o left rs) IsFill
next_ranged o left rs a = next_by (left == 0) (option_map (fill_of left) (best o rs)) (fill_ranged left (best o rs) (best_rested o rs a))

front_ranged : (x : Option Fill) (later : Fill → List Fill) → IfSome x IsFill → ((f : Fill) → AllByRecursion IsFill (later f)) → AllByRecursion IsFill (in_front x later)
front_ranged None later h more = tt
front_ranged (Some f) later h more = (h, more f)

fills_ranged : (rounds : ℕ) (o : BookOrder) (left : ℕ) (rs : List BookOrder) → Rested rs → AllByRecursion IsFill (fills rounds o left rs)
fills_ranged zero o left rs a = tt
fills_ranged (suc rounds) o left rs a =
    front_ranged (next_fill o left rs) (λ f. fills rounds o (left - f.quantity) (settled f rs)) (next_ranged o left rs a)
    (λ f. fills_ranged rounds o (left - f.quantity) (settled f rs) (settled_rested f rs a))

both_ranged : (id : ℕ) (fs : List Fill) → id < 2 ^ 64 - 1 → AllByRecursion IsFill fs → AllByRecursion InRange (flat_map (both_filled id) fs)
both_ranged id [] i a = tt
both_ranged id (f ∷ fs) i a = (record { id = i; number = a.0.number; count = a.0.count; least = a.0.least; most = a.0.most }, (a.0, both_ranged id fs i a.1))

left_least : (left : ℕ) (fs : List Fill) → left_of left fs ≤ left
left_least left [] = omega arith
left_least left (f ∷ fs) = let h = left_least (left - f.quantity) fs in omega (arith, h)

-- ---- one order

module _ (z : ℤ) (o : NewOrder) where
  new_id : (why : Option RejectCode) → AllByRecursion InRange (reports_by 1 z o why) → o.cl_id < 2 ^ 64 - 1
  new_id (Some why) h = h.0.id
  new_id None h = h.0.id

  taken : (why : Option RejectCode) (b : Bool) (side : Option Side) (r : BookOrder) → AllByRecursion InRange (reports_by 1 z o why)
      → unless_refused why (cond b (Err code.Duplicate) (on_side o side)) ≡ Ok r → IsRested r
  taken (Some why) b side r h e = absurd (cc e)
  taken None true side r h e = absurd (cc e)
  taken None false None r h e = absurd (cc e)
  taken None false (Some s) r h e =
      let b : BookOrder = record { cl_id = o.cl_id; side = s; symbol = o.symbol; quantity = o.quantity; price = o.price } in
      let same : b ≡ r = cc e in
      subst (λ (x : BookOrder). IsRested x) same (record { id = h.0.id; number = omega arith; count = h.0.count; least = h.0.least; most = h.0.most })

new_by : (o : NewOrder) (rs : List BookOrder) (r : Result BookOrder RejectCode) → o.cl_id < 2 ^ 64 - 1 → ((b : BookOrder) → r ≡ Ok b → IsRested b) → Rested rs
    → AllByRecursion InRange (reports_of_new rs o.cl_id r) × Rested (book_with rs r)
new_by o rs (Err why) i k a = ((refused_ranged o.cl_id why i, tt), a)
new_by o rs (Ok b) i k a =
    let rested = k b refl in (
      (rested, both_ranged b.cl_id (fills_of b rs) rested.id (fills_ranged (length rs) b b.quantity rs a)),
      all_append IsRested (all_settled (fills_of b rs) rs) (with_left b (left_of b.quantity (fills_of b rs))) (all_rested (fills_of b rs) rs a)
          (left_rested b (left_of b.quantity (fills_of b rs)) rested (left_least b.quantity (fills_of b rs))),
    )

cancel_by : (id : ℕ) (r : Option BookOrder) → id < 2 ^ 64 - 1 → IfSome r IsRested → AllByRecursion InRange (reports_of_cancel id r)
cancel_by id None i h = (refused_ranged id code.NotResting i, tt)
cancel_by id (Some r) i k = (record { id = k.id; number = k.number; count = k.count; least = k.least; most = k.most }, tt)

of_order : (z : ℤ) (found : Option Order) (rs : List BookOrder) → AllByRecursion InRange (desk.reports_of 1 z found) → Rested rs
    → AllByRecursion InRange (reports_of rs found) × Rested (book_after rs found)
of_order z None rs h a = (h, a)
of_order z (Some (New o)) rs h a =
    new_by o rs (admitted rs o) (new_id z o (refusal_of o) h) (λ b e. taken z o (refusal_of o) (is_some (order_with o.cl_id rs)) o.side b h e) a
of_order z (Some (Cancel id orig)) rs h a = (cancel_by id (order_with orig rs) h.0.id (found_rested orig rs a), without_rested orig rs a)

pub book_in_range : ReportsInRange → BookInRange
book_in_range law p payload rs a = of_order (pos 0) (order_in p payload) rs (law p 1 (pos 0) payload (omega arith)) a
