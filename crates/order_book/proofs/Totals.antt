-- No quantity is made or lost: what was accepted under an identifier was filled, expired, or rests.
use Rattle.std.proofs.Common.{◌≡◌, ℕ, zero, suc, ◌+◌, ◌-◌, ◌≤◌, min, ◌==◌, Bool, false, ◌&&◌, if◌then◌else◌, ◌⊎◌, inl, inr, List, [], ◌∷◌, ◌++◌, length, flat_map, Option, Some, None, Result, Ok, Err, refl, sym, ap, subst, ◌∙◌, arith}
use Rattle.order_desk.specs.declared.order.Order.{Order}
use Rattle.order_desk.specs.declared.order.Order.TheVariants.{New, Cancel}
use Rattle.order_desk.specs.declared.report.Report.{Report}
use Rattle.order_desk.specs.declared.report.ReportKind.{ReportKind}
use Rattle.order_desk.specs.declared.report.ReportKind.TheVariants.{Filled, Expired}
use Rattle.order_desk.specs.declared.report.RejectCode.{RejectCode}
use Rattle.order_desk.specs.declared.report.RejectCode.TheVariants as code
use Rattle.order_desk.specs.Reports.{refused}
use Rattle.order_book.specs.declared.entries.BookOrder.{BookOrder}
use Rattle.order_book.specs.declared.entries.Fill.{Fill}
use Rattle.order_book.specs.Book.{best, order_with, with_left, settled, all_settled, without, fill_of, fills, fills_of, left_of, entered, told, both_filled, entry_reports, admitted, reports_of_new, reports_of_cancel, reports_of, book_with, book_after, book_behind, reports_behind}
use Rattle.order_book.specs.Laws.{AreDistinct, IsBook, is_accepted, is_filled, is_expired, told_of, quantity_in, resting_of, IsKept, QuantitiesAreKept}
use Rattle.order_book.proofs.Best.{if_true, if_false}
use Rattle.order_book.proofs.Walk.{eq_true, eq_false, nothing_met, nothing_left, one_met}
use Rattle.order_book.proofs.Changes.{order_here, order_later, without_none}
use Rattle.order_book.proofs.Uncrossed.{either_id, none_by, in_order, found_in, best_in, settled_fresh, settled_distinct, accepted_is_new, after_book}

-- ---- matches

-- what matches take from the order of an identifier, and what they take in all
abbrev traded : ℕ → List Fill → ℕ
traded c [] = 0
traded c (f ∷ fs) = (if f.cl_id == c then f.quantity else 0) + traded c fs

abbrev spent : List Fill → ℕ
spent [] = 0
spent (f ∷ fs) = f.quantity + spent fs

-- ---- one match

abbrev less : BookOrder → ℕ → BookOrder
less r left = record r { quantity = left }

resting_here : (c : ℕ) (r : BookOrder) (rs : List BookOrder) → r.cl_id ≡ c → resting_of c (r ∷ rs) ≡ r.quantity
resting_here c r rs same = ap quantity_in (order_here c r rs same)

resting_later : (c : ℕ) (r : BookOrder) (rs : List BookOrder) → (r.cl_id ≡ c → ⊥) → resting_of c (r ∷ rs) ≡ resting_of c rs
resting_later c r rs apart = ap quantity_in (order_later c r rs apart)

resting_none : (c : ℕ) (rs : List BookOrder) → order_with c rs ≡ None → resting_of c rs ≡ 0
resting_none c rs h = ap quantity_in h

left_here : (c : ℕ) (r : BookOrder) (left : ℕ) (rs : List BookOrder) → r.cl_id ≡ c → order_with c rs ≡ None → resting_of c (with_left r left ++ rs) ≡ left
left_here c r left rs same none = by_case (either_id left 0)
  where
    by_case : (left ≡ 0) ⊎ (left ≡ 0 → ⊥) → resting_of c (with_left r left ++ rs) ≡ left
    by_case (inl z) = ap (λ l. resting_of c (l ++ rs)) (if_true (left == 0) [] (less r left ∷ []) (eq_true left 0 z)) ∙ (resting_none c rs none ∙ sym z)
    by_case (inr s) = ap (λ l. resting_of c (l ++ rs)) (if_false (left == 0) [] (less r left ∷ []) (eq_false left 0 s)) ∙ resting_here c (less r left) rs same

left_other : (c : ℕ) (r : BookOrder) (left : ℕ) (rs : List BookOrder) → (r.cl_id ≡ c → ⊥) → resting_of c (with_left r left ++ rs) ≡ resting_of c rs
left_other c r left rs apart = by_case (either_id left 0)
  where
    by_case : (left ≡ 0) ⊎ (left ≡ 0 → ⊥) → resting_of c (with_left r left ++ rs) ≡ resting_of c rs
    by_case (inl z) = ap (λ l. resting_of c (l ++ rs)) (if_true (left == 0) [] (less r left ∷ []) (eq_true left 0 z))
    by_case (inr s) = ap (λ l. resting_of c (l ++ rs)) (if_false (left == 0) [] (less r left ∷ []) (eq_false left 0 s)) ∙ resting_later c (less r left) rs apart

-- the order that is met
settled_own : (f : Fill) (rs : List BookOrder) (r : BookOrder) → AreDistinct rs → order_with f.cl_id rs ≡ Some r → resting_of f.cl_id (settled f rs) ≡ r.quantity - f.quantity
settled_own f [] r d h = absurd (let e : None ≡ Some r = h in cc)
settled_own f (q ∷ rs) r d h = by_case (either_id q.cl_id f.cl_id) (λ k. settled_own f rs r d.1 k)
  where
    by_case : (q.cl_id ≡ f.cl_id) ⊎ (q.cl_id ≡ f.cl_id → ⊥) → (order_with f.cl_id rs ≡ Some r → resting_of f.cl_id (settled f rs) ≡ r.quantity - f.quantity)
        → resting_of f.cl_id (settled f (q ∷ rs)) ≡ r.quantity - f.quantity
    by_case (inl same) ih =
        let e : Some q ≡ Some r = sym (order_here f.cl_id q rs same) ∙ h in
        let is : q ≡ r = cc in
        ap (λ l. resting_of f.cl_id l) (if_true (q.cl_id == f.cl_id) (with_left q (q.quantity - f.quantity) ++ rs) (q ∷ settled f rs) (eq_true q.cl_id f.cl_id same))
        ∙ (left_here f.cl_id q (q.quantity - f.quantity) rs same (ap (λ c. order_with c rs) (sym same) ∙ d.0) ∙ ap (λ (x : BookOrder). x.quantity - f.quantity) is)
    by_case (inr apart) ih =
        ap (λ l. resting_of f.cl_id l) (if_false (q.cl_id == f.cl_id) (with_left q (q.quantity - f.quantity) ++ rs) (q ∷ settled f rs) (eq_false q.cl_id f.cl_id apart))
        ∙ (resting_later f.cl_id q (settled f rs) apart ∙ ih (sym (order_later f.cl_id q rs apart) ∙ h))

-- another order
settled_other : (c : ℕ) (f : Fill) (rs : List BookOrder) → (f.cl_id ≡ c → ⊥) → resting_of c (settled f rs) ≡ resting_of c rs
settled_other c f [] apart = refl
settled_other c f (q ∷ rs) apart = by_case (either_id q.cl_id f.cl_id) (either_id q.cl_id c) (settled_other c f rs apart)
  where
    by_case : (q.cl_id ≡ f.cl_id) ⊎ (q.cl_id ≡ f.cl_id → ⊥) → (q.cl_id ≡ c) ⊎ (q.cl_id ≡ c → ⊥) → resting_of c (settled f rs) ≡ resting_of c rs → resting_of c (settled f (q ∷ rs)) ≡ resting_of c (q ∷ rs)
    by_case (inl same) e ih =
        let other : q.cl_id ≡ c → ⊥ = λ is. apart (sym same ∙ is) in
        ap (λ l. resting_of c l) (if_true (q.cl_id == f.cl_id) (with_left q (q.quantity - f.quantity) ++ rs) (q ∷ settled f rs) (eq_true q.cl_id f.cl_id same))
        ∙ (left_other c q (q.quantity - f.quantity) rs other ∙ sym (resting_later c q rs other))
    by_case (inr ne) (inl is) ih =
        ap (λ l. resting_of c l) (if_false (q.cl_id == f.cl_id) (with_left q (q.quantity - f.quantity) ++ rs) (q ∷ settled f rs) (eq_false q.cl_id f.cl_id ne))
        ∙ (resting_here c q (settled f rs) is ∙ sym (resting_here c q rs is))
    by_case (inr ne) (inr other) ih =
        ap (λ l. resting_of c l) (if_false (q.cl_id == f.cl_id) (with_left q (q.quantity - f.quantity) ++ rs) (q ∷ settled f rs) (eq_false q.cl_id f.cl_id ne))
        ∙ (resting_later c q (settled f rs) other ∙ (ih ∙ sym (resting_later c q rs other)))

settled_kept : (c : ℕ) (f : Fill) (rs : List BookOrder) (r : BookOrder) → AreDistinct rs → order_with f.cl_id rs ≡ Some r → f.quantity ≤ r.quantity
    → resting_of c rs ≡ (if f.cl_id == c then f.quantity else 0) + resting_of c (settled f rs)
settled_kept c f rs r d h le = by_case (either_id f.cl_id c)
  where
    by_case : (f.cl_id ≡ c) ⊎ (f.cl_id ≡ c → ⊥) → resting_of c rs ≡ (if f.cl_id == c then f.quantity else 0) + resting_of c (settled f rs)
    by_case (inl is) =
        let own : resting_of c (settled f rs) ≡ r.quantity - f.quantity = ap (λ z. resting_of z (settled f rs)) (sym is) ∙ settled_own f rs r d h in
        let all : resting_of c rs ≡ r.quantity = ap (λ z. resting_of z rs) (sym is) ∙ ap quantity_in h in
        let share : (if f.cl_id == c then f.quantity else 0) ≡ f.quantity = if_true (f.cl_id == c) f.quantity 0 (eq_true f.cl_id c is) in
        omega (arith, own, all, share, le)
    by_case (inr ne) =
        let same : resting_of c (settled f rs) ≡ resting_of c rs = settled_other c f rs ne in
        let share : (if f.cl_id == c then f.quantity else 0) ≡ 0 = if_false (f.cl_id == c) f.quantity 0 (eq_false f.cl_id c ne) in
        omega (arith, same, share)

-- ---- all matches of an order

-- what the matches take, of one identifier and in all
record AreKept (c left : ℕ) (rs : List BookOrder) (fs : List Fill) : Type 0 where
  resting : resting_of c rs ≡ traded c fs + resting_of c (all_settled fs rs)
  coming : left ≡ spent fs + left_of left fs

kept_as : (c left : ℕ) (rs : List BookOrder) (fs gs : List Fill) → gs ≡ fs → AreKept c left rs fs → AreKept c left rs gs
kept_as c left rs fs gs is k = subst (λ l. AreKept c left rs l) (sym is) k

no_matches : (c left : ℕ) (rs : List BookOrder) → AreKept c left rs []
no_matches c left rs = record { resting = omega arith; coming = omega arith }

one_match : (c left : ℕ) (rs : List BookOrder) (r : BookOrder) (fs : List Fill) → AreDistinct rs → order_with r.cl_id rs ≡ Some r
    → AreKept c (left - min left r.quantity) (settled (fill_of left r) rs) fs → AreKept c left rs (fill_of left r ∷ fs)
one_match c left rs r fs d h k =
    let first : resting_of c rs ≡ (if r.cl_id == c then min left r.quantity else 0) + resting_of c (settled (fill_of left r) rs) = settled_kept c (fill_of left r) rs r d h (omega arith) in
    let later : resting_of c (settled (fill_of left r) rs) ≡ traded c fs + resting_of c (all_settled fs (settled (fill_of left r) rs)) = k.resting in
    let rest : left - min left r.quantity ≡ spent fs + left_of (left - min left r.quantity) fs = k.coming in
    record { resting = omega (arith, first, later); coming = omega (arith, rest) }

matches_by : (n c : ℕ) (o : BookOrder) (left : ℕ) (rs : List BookOrder) → AreDistinct rs → ((less : ℕ) (qs : List BookOrder) → AreDistinct qs → AreKept c less qs (fills n o less qs))
    → (left ≡ 0) ⊎ (left ≡ 0 → ⊥) → (b : Option BookOrder) → best o rs ≡ b → AreKept c left rs (fills (suc n) o left rs)
matches_by n c o left rs d ih (inl none) b is = kept_as c left rs [] (fills (suc n) o left rs) (ap (λ z. fills (suc n) o z rs) none ∙ nothing_left (suc n) o rs) (no_matches c left rs)
matches_by n c o left rs d ih (inr some) None is = kept_as c left rs [] (fills (suc n) o left rs) (nothing_met (suc n) o left rs is) (no_matches c left rs)
matches_by n c o left rs d ih (inr some) (Some r) is =
    kept_as c left rs (fill_of left r ∷ fills n o (left - min left r.quantity) (settled (fill_of left r) rs)) (fills (suc n) o left rs) (one_met n o left rs r some is)
    (one_match c left rs r (fills n o (left - min left r.quantity) (settled (fill_of left r) rs)) d (in_order rs r d (best_in o rs r is))
    (ih (left - min left r.quantity) (settled (fill_of left r) rs) (settled_distinct (fill_of left r) rs d)))

matches_kept : (n c : ℕ) (o : BookOrder) (left : ℕ) (rs : List BookOrder) → AreDistinct rs → AreKept c left rs (fills n o left rs)
matches_kept zero c o left rs d = no_matches c left rs
matches_kept (suc n) c o left rs d = matches_by n c o left rs d (λ less qs e. matches_kept n c o less qs e) (either_id left 0) (best o rs) refl

-- ---- what reports tell

told_more : (k : ReportKind → Bool) (c : ℕ) (xs ys : List Report) → told_of k c (xs ++ ys) ≡ told_of k c xs + told_of k c ys
told_more k c [] ys = omega arith
told_more k c (x ∷ xs) ys = let ih = told_more k c xs ys in omega (arith, ih)

told_not : (k : ReportKind → Bool) (c id : ℕ) (fs : List Fill) → k Filled ≡ false → told_of k c (flat_map (both_filled id) fs) ≡ 0
told_not k c id [] e = refl
told_not k c id (f ∷ fs) e =
    let ih = told_not k c id fs e in
    let one : (if k Filled && id == c then f.quantity else 0) ≡ 0 = ap (λ b. if b && id == c then f.quantity else 0) e in
    let two : (if k Filled && f.cl_id == c then f.quantity else 0) ≡ 0 = ap (λ b. if b && f.cl_id == c then f.quantity else 0) e in
    omega (arith, ih, one, two)

-- of an order that has this identifier itself, and of one that has not
told_own : (c id : ℕ) (fs : List Fill) → id ≡ c → told_of is_filled c (flat_map (both_filled id) fs) ≡ spent fs + traded c fs
told_own c id [] same = refl
told_own c id (f ∷ fs) same =
    let ih = told_own c id fs same in
    let one : (if id == c then f.quantity else 0) ≡ f.quantity = if_true (id == c) f.quantity 0 (eq_true id c same) in
    omega (arith, ih, one)

told_other : (c id : ℕ) (fs : List Fill) → (id ≡ c → ⊥) → told_of is_filled c (flat_map (both_filled id) fs) ≡ traded c fs
told_other c id [] apart = refl
told_other c id (f ∷ fs) apart =
    let ih = told_other c id fs apart in
    let one : (if id == c then f.quantity else 0) ≡ 0 = if_false (id == c) f.quantity 0 (eq_false id c apart) in
    omega (arith, ih, one)

-- ---- an order that is accepted

behind_none : (c : ℕ) (xs ys : List BookOrder) → order_with c xs ≡ None → resting_of c (xs ++ ys) ≡ resting_of c ys
behind_none c [] ys h = refl
behind_none c (x ∷ xs) ys h = let n = none_by c x xs h in resting_later c x (xs ++ ys) n.0 ∙ behind_none c xs ys n.1

ahead_of : (c : ℕ) (xs ys : List BookOrder) → resting_of c ys ≡ 0 → resting_of c (xs ++ ys) ≡ resting_of c xs
ahead_of c [] ys z = z
ahead_of c (x ∷ xs) ys z = by_case (either_id x.cl_id c) (ahead_of c xs ys z)
  where
    by_case : (x.cl_id ≡ c) ⊎ (x.cl_id ≡ c → ⊥) → resting_of c (xs ++ ys) ≡ resting_of c xs → resting_of c (x ∷ (xs ++ ys)) ≡ resting_of c (x ∷ xs)
    by_case (inl is) ih = resting_here c x (xs ++ ys) is ∙ sym (resting_here c x xs is)
    by_case (inr ne) ih = resting_later c x (xs ++ ys) ne ∙ (ih ∙ sym (resting_later c x xs ne))

all_settled_fresh : (c : ℕ) (fs : List Fill) (rs : List BookOrder) → order_with c rs ≡ None → order_with c (all_settled fs rs) ≡ None
all_settled_fresh c [] rs h = h
all_settled_fresh c (f ∷ fs) rs h = all_settled_fresh c fs (settled f rs) (settled_fresh c f rs h)

nil_end : (l : List BookOrder) → l ++ [] ≡ l
nil_end [] = refl
nil_end (x ∷ xs) = ap (λ l. x ∷ l) (nil_end xs)

entry_kept : (c : ℕ) (o : BookOrder) (rs : List BookOrder) (fs : List Fill) → order_with o.cl_id rs ≡ None → AreKept c o.quantity rs fs → IsKept c rs (entry_reports o fs) (entered o fs rs)
entry_kept c o rs fs fresh k = by_case (either_id o.cl_id c)
  where
    by_case : (o.cl_id ≡ c) ⊎ (o.cl_id ≡ c → ⊥) → IsKept c rs (entry_reports o fs) (entered o fs rs)
    by_case (inl same) =
        let none : order_with c rs ≡ None = ap (λ z. order_with z rs) (sym same) ∙ fresh in
        let before : resting_of c rs ≡ 0 = resting_none c rs none in
        let after : resting_of c (entered o fs rs) ≡ left_of o.quantity fs =
        behind_none c (all_settled fs rs) (with_left o (left_of o.quantity fs)) (all_settled_fresh c fs rs none)
        ∙ (ap (λ l. resting_of c l) (sym (nil_end (with_left o (left_of o.quantity fs)))) ∙ left_here c o (left_of o.quantity fs) [] same refl) in
        let one : (if o.cl_id == c then o.quantity else 0) ≡ o.quantity = if_true (o.cl_id == c) o.quantity 0 (eq_true o.cl_id c same) in
        let accepted : told_of is_accepted c (flat_map (both_filled o.cl_id) fs) ≡ 0 = told_not is_accepted c o.cl_id fs refl in
        let expired : told_of is_expired c (flat_map (both_filled o.cl_id) fs) ≡ 0 = told_not is_expired c o.cl_id fs refl in
        let matched : told_of is_filled c (flat_map (both_filled o.cl_id) fs) ≡ spent fs + traded c fs = told_own c o.cl_id fs same in
        let rest : resting_of c rs ≡ traded c fs + resting_of c (all_settled fs rs) = k.resting in
        let own : o.quantity ≡ spent fs + left_of o.quantity fs = k.coming in
        record { kept = omega (arith, before, after, one, accepted, expired, matched, rest, own) }
    by_case (inr apart) =
        let zero_left : resting_of c (with_left o (left_of o.quantity fs)) ≡ 0 =
        ap (λ l. resting_of c l) (sym (nil_end (with_left o (left_of o.quantity fs)))) ∙ left_other c o (left_of o.quantity fs) [] apart in
        let after : resting_of c (entered o fs rs) ≡ resting_of c (all_settled fs rs) = ahead_of c (all_settled fs rs) (with_left o (left_of o.quantity fs)) zero_left in
        let one : (if o.cl_id == c then o.quantity else 0) ≡ 0 = if_false (o.cl_id == c) o.quantity 0 (eq_false o.cl_id c apart) in
        let accepted : told_of is_accepted c (flat_map (both_filled o.cl_id) fs) ≡ 0 = told_not is_accepted c o.cl_id fs refl in
        let expired : told_of is_expired c (flat_map (both_filled o.cl_id) fs) ≡ 0 = told_not is_expired c o.cl_id fs refl in
        let matched : told_of is_filled c (flat_map (both_filled o.cl_id) fs) ≡ traded c fs = told_other c o.cl_id fs apart in
        let rest : resting_of c rs ≡ traded c fs + resting_of c (all_settled fs rs) = k.resting in
        record { kept = omega (arith, after, one, accepted, expired, matched, rest) }

-- ---- one order, and any list of them

refused_kept : (c id : ℕ) (why : RejectCode) (rs : List BookOrder) → IsKept c rs (refused 1 id why ∷ []) rs
refused_kept c id why rs = record { kept = omega arith }

new_kept : (c id : ℕ) (rs : List BookOrder) (r : Result BookOrder RejectCode) → IsBook rs → ((o : BookOrder) → r ≡ Ok o → order_with o.cl_id rs ≡ None)
    → IsKept c rs (reports_of_new rs id r) (book_with rs r)
new_kept c id rs (Err why) b fresh = refused_kept c id why rs
new_kept c id rs (Ok o) b fresh = entry_kept c o rs (fills_of o rs) (fresh o refl) (matches_kept (length rs) c o o.quantity rs b.distinct)

without_own : (c : ℕ) (rs : List BookOrder) → AreDistinct rs → resting_of c (without c rs) ≡ 0
without_own c [] d = refl
without_own c (r ∷ rs) d = by_case (either_id r.cl_id c) (without_own c rs d.1)
  where
    by_case : (r.cl_id ≡ c) ⊎ (r.cl_id ≡ c → ⊥) → resting_of c (without c rs) ≡ 0 → resting_of c (without c (r ∷ rs)) ≡ 0
    by_case (inl is) ih =
        ap (λ l. resting_of c l) (if_true (r.cl_id == c) rs (r ∷ without c rs) (eq_true r.cl_id c is)) ∙ resting_none c rs (ap (λ z. order_with z rs) (sym is) ∙ d.0)
    by_case (inr ne) ih =
        ap (λ l. resting_of c l) (if_false (r.cl_id == c) rs (r ∷ without c rs) (eq_false r.cl_id c ne)) ∙ (resting_later c r (without c rs) ne ∙ ih)

without_other : (c orig : ℕ) (rs : List BookOrder) → (orig ≡ c → ⊥) → resting_of c (without orig rs) ≡ resting_of c rs
without_other c orig [] apart = refl
without_other c orig (r ∷ rs) apart = by_case (either_id r.cl_id orig) (either_id r.cl_id c) (without_other c orig rs apart)
  where
    by_case : (r.cl_id ≡ orig) ⊎ (r.cl_id ≡ orig → ⊥) → (r.cl_id ≡ c) ⊎ (r.cl_id ≡ c → ⊥) → resting_of c (without orig rs) ≡ resting_of c rs → resting_of c (without orig (r ∷ rs)) ≡ resting_of c (r ∷ rs)
    by_case (inl is) e ih =
        ap (λ l. resting_of c l) (if_true (r.cl_id == orig) rs (r ∷ without orig rs) (eq_true r.cl_id orig is)) ∙ sym (resting_later c r rs (λ same. apart (sym is ∙ same)))
    by_case (inr ne) (inl is) ih =
        ap (λ l. resting_of c l) (if_false (r.cl_id == orig) rs (r ∷ without orig rs) (eq_false r.cl_id orig ne)) ∙ (resting_here c r (without orig rs) is ∙ sym (resting_here c r rs is))
    by_case (inr ne) (inr other) ih =
        ap (λ l. resting_of c l) (if_false (r.cl_id == orig) rs (r ∷ without orig rs) (eq_false r.cl_id orig ne))
        ∙ (resting_later c r (without orig rs) other ∙ (ih ∙ sym (resting_later c r rs other)))

cancel_kept : (c cl_id orig : ℕ) (rs : List BookOrder) → AreDistinct rs → (f : Option BookOrder) → order_with orig rs ≡ f → IsKept c rs (reports_of_cancel cl_id f) (without orig rs)
cancel_kept c cl_id orig rs d None is =
    subst (λ l. IsKept c rs (refused 1 cl_id code.NotResting ∷ []) l) (sym (without_none rs orig is)) (refused_kept c cl_id code.NotResting rs)
cancel_kept c cl_id orig rs d (Some r) is = by_case (either_id orig c)
  where
    by_case : (orig ≡ c) ⊎ (orig ≡ c → ⊥) → IsKept c rs (told Expired r ∷ []) (without orig rs)
    by_case (inl same) =
        let before : resting_of c rs ≡ r.quantity = ap (λ z. resting_of z rs) (sym same) ∙ ap quantity_in is in
        let after : resting_of c (without orig rs) ≡ 0 = ap (λ z. resting_of c (without z rs)) same ∙ without_own c rs d in
        let own : r.cl_id ≡ c = (found_in orig rs r is).1 ∙ same in
        let one : (if r.cl_id == c then r.quantity else 0) ≡ r.quantity = if_true (r.cl_id == c) r.quantity 0 (eq_true r.cl_id c own) in
        record { kept = omega (arith, before, after, one) }
    by_case (inr apart) =
        let after : resting_of c (without orig rs) ≡ resting_of c rs = without_other c orig rs apart in
        let own : r.cl_id ≡ c → ⊥ = λ same. apart (sym (found_in orig rs r is).1 ∙ same) in
        let one : (if r.cl_id == c then r.quantity else 0) ≡ 0 = if_false (r.cl_id == c) r.quantity 0 (eq_false r.cl_id c own) in
        record { kept = omega (arith, after, one) }

order_kept : (c : ℕ) (rs : List BookOrder) (o : Option Order) → IsBook rs → IsKept c rs (reports_of rs o) (book_after rs o)
order_kept c rs None b = refused_kept c 0 code.NotAnOrder rs
order_kept c rs (Some (New o)) b = new_kept c o.cl_id rs (admitted rs o) b (λ x h. accepted_is_new rs o x h)
order_kept c rs (Some (Cancel cl_id orig)) b = cancel_kept c cl_id orig rs b.distinct (order_with orig rs) refl

kept_more : (c : ℕ) (rs qs ps : List BookOrder) (xs ys : List Report) → IsKept c rs xs qs → IsKept c qs ys ps → IsKept c rs (xs ++ ys) ps
kept_more c rs qs ps xs ys k l =
    let accepted = told_more is_accepted c xs ys in
    let matched = told_more is_filled c xs ys in
    let expired = told_more is_expired c xs ys in
    let first = k.kept in
    let second = l.kept in
    record { kept = omega (arith, accepted, matched, expired, first, second) }

pub quantities_are_kept : QuantitiesAreKept
quantities_are_kept c rs [] b = record { kept = omega arith }
quantities_are_kept c rs (o ∷ os) b =
    kept_more c rs (book_after rs o) (book_behind (book_after rs o) os) (reports_of rs o) (reports_behind (book_after rs o) os)
    (order_kept c rs o b) (quantities_are_kept c (book_after rs o) os (after_book rs o b))
