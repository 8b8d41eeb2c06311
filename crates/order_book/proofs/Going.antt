-- The laws that follow from the definitions at once: more orders, both sides of a match, and the best order.
use Rattle.std.proofs.Common.{◌≡◌, ℕ, Bool, true, false, ◌&&◌, if◌then◌else◌, ℤ, List, [], ◌∷◌, ◌++◌, All, flat_map, Option, Some, None, MatchOption, refl, sym, ap, subst, ◌∙◌, append_assoc, arith}
use Rattle.std.specs.Cmp.{first_so}
use Rattle.std.proofs.lemmas.Int.{ints}
use Rattle.std.proofs.lemmas.List.Elements.{All-nil, All-cons, All-append, All-weaker}
use Rattle.order_desk.specs.declared.order.Side.{Side}
use Rattle.order_desk.specs.declared.order.Side.TheVariants.{Buy, Sell}
use Rattle.order_desk.specs.Reports.{crosses}
use Rattle.order_book.specs.declared.entries.BookOrder.{BookOrder}
use Rattle.order_book.specs.declared.entries.Fill.{Fill}
use Rattle.order_book.specs.Book.{is_opposite, is_same, meets, is_better, beats, better_of, best, both_filled, fills_of, reports_of, reports_of_new, book_after}
use Rattle.order_book.specs.Laws.{IsUnbeaten, BestIsUnbeaten, AreMatches, MatchesAreEven, ReportsGoOn}
use Rattle.order_book.specs.Index.{other}
use Rattle.order_book.proofs.Lookups.{both}

pub reports_go_on : ReportsGoOn
reports_go_on rs [] more = refl
reports_go_on rs (o ∷ os) more = ap (λ l. reports_of rs o ++ l) (reports_go_on (book_after rs o) os more) ∙ sym (append_assoc (reports_of rs o) _ _)

even : (cl_id : ℕ) (fs : List Fill) → AreMatches cl_id (flat_map (both_filled cl_id) fs)
even cl_id [] = tt
even cl_id (f ∷ fs) = (record { own_kind = refl; resting_kind = refl; own_id = refl; quantity = refl; price = refl }, even cl_id fs)

pub matches_are_even : MatchesAreEven
matches_are_even rs new o h =
    (flat_map (both_filled o.cl_id) (fills_of o rs), ap (λ a. reports_of_new rs new.cl_id a) h, even o.cl_id (fills_of o rs))

-- ---- the best order

pub opposite_of : (a b : Side) → is_opposite a b ≡ true → b ≡ other a
opposite_of Buy Buy e = absurd cc
opposite_of Buy Sell e = refl
opposite_of Sell Buy e = refl
opposite_of Sell Sell e = absurd cc

-- whoever may be met is of the other side
side_met : (o r : BookOrder) → meets o r ≡ true → r.side ≡ other o.side
side_met o r e = opposite_of o.side r.side (first_so (is_opposite o.side r.side) (is_same o.symbol r.symbol && crosses (Some o.side) o.price r.price) e)

-- prices of one side: what the best one beats, or what does not beat it, does not beat one that it does not beat
passed_by : (s : Side) (w r x : ℤ) → is_better s w r ≡ false → is_better s w x ≡ true → is_better s x r ≡ false
passed_by Buy w r x p q = grind (arith, ints)
passed_by Sell w r x p q = grind (arith, ints)

not_passed : (s : Side) (w r x : ℤ) → is_better s w r ≡ false → is_better s x w ≡ false → is_better s x r ≡ false
not_passed Buy w r x p q = grind (arith, ints)
not_passed Sell w r x p q = grind (arith, ints)

at_side : (s t : Side) (x y : ℤ) (b : Bool) → s ≡ t → is_better s x y ≡ b → is_better t x y ≡ b
at_side s t x y b e h = ap (λ z. is_better z x y) (sym e) ∙ h

-- beyond what the best one of the later orders passes, the first order is not beaten either
no_worse_by : (o w r x : BookOrder) → meets o w ≡ true → beats w r ≡ false → meets o x ≡ true → beats w x ≡ true → beats x r ≡ false
no_worse_by o w r x m p k q =
    let s : w.side ≡ x.side = side_met o w m ∙ sym (side_met o x k) in
    at_side w.side x.side x.price r.price false s (passed_by w.side w.price r.price x.price p q)

no_worse_behind : (o w r x : BookOrder) → meets o w ≡ true → beats w r ≡ false → meets o x ≡ true → beats x w ≡ false → beats x r ≡ false
no_worse_behind o w r x m p k q =
    let s : x.side ≡ w.side = side_met o x k ∙ sym (side_met o w m) in
    at_side w.side x.side x.price r.price false (sym s) (not_passed w.side w.price r.price x.price p (at_side x.side w.side x.price w.price false s q))

abbrev Answers : BookOrder → List BookOrder → Option BookOrder → Type 0
Answers o rs b = MatchOption b (All (λ r. meets o r ≡ false) rs) (IsUnbeaten o rs)

first_stays : (o r w : BookOrder) (rs : List BookOrder) → meets o r ≡ true → IsUnbeaten o rs w → (b : Bool) → beats w r ≡ b → Answers o (r ∷ rs) (Some (if b then w else r))
first_stays o r w rs m u true e = record {
  before = r ∷ u.before;
  behind = u.behind;
  stands = ap (λ l. r ∷ l) u.stands;
  may = u.may;
  better = All-cons (λ x. meets o x ≡ true → beats w x ≡ true) r u.before (λ _. e) u.better;
  no_worse = u.no_worse;
}
first_stays o r w rs m u false e = record {
  before = [];
  behind = rs;
  stands = refl;
  may = m;
  better = All-nil (λ x. meets o x ≡ true → beats r x ≡ true);
  no_worse = subst (λ l. All (λ x. meets o x ≡ true → beats x r ≡ false) l) (sym u.stands)
      (All-append (λ x. meets o x ≡ true → beats x r ≡ false) u.before (w ∷ u.behind)
      (All-weaker (λ x. meets o x ≡ true → beats w x ≡ true) (λ x. meets o x ≡ true → beats x r ≡ false) (λ x h k. no_worse_by o w r x u.may e k (h k)) u.before u.better)
      (All-cons (λ x. meets o x ≡ true → beats x r ≡ false) w u.behind (λ _. e)
      (All-weaker (λ x. meets o x ≡ true → beats x w ≡ false) (λ x. meets o x ≡ true → beats x r ≡ false) (λ x h k. no_worse_behind o w r x u.may e k (h k)) u.behind u.no_worse)));
}

best_step : (o r : BookOrder) (rs : List BookOrder) (rest : Option BookOrder) → Answers o rs rest → (m : Bool) → meets o r ≡ m → Answers o (r ∷ rs) (if m then Some (better_of r rest) else rest)
best_step o r rs None all true e = record {
  before = [];
  behind = rs;
  stands = refl;
  may = e;
  better = All-nil (λ x. meets o x ≡ true → beats r x ≡ true);
  no_worse = All-weaker (λ x. meets o x ≡ false) (λ x. meets o x ≡ true → beats x r ≡ false) (λ x h k. absurd (both (meets o x) k h)) rs all;
}
best_step o r rs (Some w) u true e = first_stays o r w rs e u (beats w r) refl
best_step o r rs None all false e = All-cons (λ x. meets o x ≡ false) r rs e all
best_step o r rs (Some w) u false e = record {
  before = r ∷ u.before;
  behind = u.behind;
  stands = ap (λ l. r ∷ l) u.stands;
  may = u.may;
  better = All-cons (λ x. meets o x ≡ true → beats w x ≡ true) r u.before (λ k. absurd (both (meets o r) k e)) u.better;
  no_worse = u.no_worse;
}

pub best_is_unbeaten : BestIsUnbeaten
best_is_unbeaten o [] = All-nil (λ r. meets o r ≡ false)
best_is_unbeaten o (r ∷ rs) = best_step o r rs (best o rs) (best_is_unbeaten o rs) (meets o r) refl
