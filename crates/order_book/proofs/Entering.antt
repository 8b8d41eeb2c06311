-- An order that rests behind the others stands apart from the matches that were found before it came.
use Rattle.std.proofs.Common.{◌≡◌, ℕ, zero, suc, ◌-◌, ◌<◌, min, ◌==◌, ◌⊎◌, inl, inr, List, [], ◌∷◌, ◌++◌, length, Option, Some, None, refl, sym, ap, subst, ◌∙◌, append_assoc, append-nil, arith}
use Rattle.order_book.specs.declared.entries.BookOrder.{BookOrder}
use Rattle.order_book.specs.declared.entries.Fill.{Fill}
use Rattle.order_book.specs.Book.{best, order_with, with_left, settled, all_settled, fill_of, fills, fills_of, left_of, entered}
use Rattle.order_book.proofs.Best.{if_true, if_false}
use Rattle.order_book.proofs.Walk.{eq_true, eq_false, nothing_met, nothing_left, one_met}
use Rattle.order_book.proofs.Changes.{order_here, order_later}
use Rattle.order_book.proofs.Uncrossed.{In, either_id, best_in}

abbrev Some_with : ℕ → List BookOrder → Type 0
Some_with c rs = (q : BookOrder) × (order_with c rs ≡ Some q)

some_with : (rs : List BookOrder) (x : BookOrder) → In rs x → Some_with x.cl_id rs
some_with [] x i = absurd i
some_with (r ∷ rs) x (inl i) = (r, order_here x.cl_id r rs (ap (λ (z : BookOrder). z.cl_id) (sym i)))
some_with (r ∷ rs) x (inr i) = by_case (either_id r.cl_id x.cl_id) (some_with rs x i)
  where
    by_case : (r.cl_id ≡ x.cl_id) ⊎ (r.cl_id ≡ x.cl_id → ⊥) → Some_with x.cl_id rs → Some_with x.cl_id (r ∷ rs)
    by_case (inl same) k = (r, order_here x.cl_id r rs same)
    by_case (inr apart) k = (k.0, order_later x.cl_id r rs apart ∙ k.1)

settled_push : (f : Fill) (rs : List BookOrder) (q : BookOrder) (more : List BookOrder) → order_with f.cl_id rs ≡ Some q → settled f (rs ++ more) ≡ settled f rs ++ more
settled_push f [] q more h = absurd (let e : None ≡ Some q = h in cc)
settled_push f (r ∷ rs) q more h = by_case (either_id r.cl_id f.cl_id) (λ k. settled_push f rs q more k)
  where
    by_case : (r.cl_id ≡ f.cl_id) ⊎ (r.cl_id ≡ f.cl_id → ⊥) → (order_with f.cl_id rs ≡ Some q → settled f (rs ++ more) ≡ settled f rs ++ more)
        → settled f (r ∷ (rs ++ more)) ≡ settled f (r ∷ rs) ++ more
    by_case (inl same) ih =
        if_true (r.cl_id == f.cl_id) (with_left r (r.quantity - f.quantity) ++ (rs ++ more)) (r ∷ settled f (rs ++ more)) (eq_true r.cl_id f.cl_id same)
        ∙ (sym (append_assoc (with_left r (r.quantity - f.quantity)) rs more)
        ∙ ap (λ l. l ++ more) (sym (if_true (r.cl_id == f.cl_id) (with_left r (r.quantity - f.quantity) ++ rs) (r ∷ settled f rs) (eq_true r.cl_id f.cl_id same))))
    by_case (inr apart) ih =
        if_false (r.cl_id == f.cl_id) (with_left r (r.quantity - f.quantity) ++ (rs ++ more)) (r ∷ settled f (rs ++ more)) (eq_false r.cl_id f.cl_id apart)
        ∙ (ap (λ l. r ∷ l) (ih (sym (order_later f.cl_id r rs apart) ∙ h))
        ∙ ap (λ l. l ++ more) (sym (if_false (r.cl_id == f.cl_id) (with_left r (r.quantity - f.quantity) ++ rs) (r ∷ settled f rs) (eq_false r.cl_id f.cl_id apart))))

abbrev Apart : List Fill → List BookOrder → List BookOrder → Type 0
Apart fs rs more = all_settled fs (rs ++ more) ≡ all_settled fs rs ++ more

push_by : (n : ℕ) (o : BookOrder) (left : ℕ) (rs more : List BookOrder) → ((less : ℕ) (qs : List BookOrder) → Apart (fills n o less qs) qs more)
    → (left ≡ 0) ⊎ (left ≡ 0 → ⊥) → (b : Option BookOrder) → best o rs ≡ b → Apart (fills (suc n) o left rs) rs more
push_by n o left rs more ih (inl none) b is = subst (λ l. Apart l rs more) (sym (ap (λ z. fills (suc n) o z rs) none ∙ nothing_left (suc n) o rs)) refl
push_by n o left rs more ih (inr some) None is = subst (λ l. Apart l rs more) (sym (nothing_met (suc n) o left rs is)) refl
push_by n o left rs more ih (inr some) (Some r) is =
    let w = some_with rs r (best_in o rs r is) in
    subst (λ l. Apart l rs more) (sym (one_met n o left rs r some is))
    (ap (λ l. all_settled (fills n o (left - min left r.quantity) (settled (fill_of left r) rs)) l) (settled_push (fill_of left r) rs w.0 more w.1)
    ∙ ih (left - min left r.quantity) (settled (fill_of left r) rs))

fills_push : (n : ℕ) (o : BookOrder) (left : ℕ) (rs more : List BookOrder) → Apart (fills n o left rs) rs more
fills_push zero o left rs more = refl
fills_push (suc n) o left rs more = push_by n o left rs more (λ less qs. fills_push n o less qs more) (either_id left 0) (best o rs) refl

-- what is left rests behind the others
pub enters_some : (o : BookOrder) (rs : List BookOrder) (left : ℕ) → left ≡ left_of o.quantity (fills_of o rs) → 0 < left
    → all_settled (fills_of o rs) (rs ++ record o { quantity = left } ∷ []) ≡ entered o (fills_of o rs) rs
enters_some o rs left is some =
    fills_push (length rs) o o.quantity rs (record o { quantity = left } ∷ [])
    ∙ ap (λ l. all_settled (fills_of o rs) rs ++ l) (sym (if_false (left == 0) [] (record o { quantity = left } ∷ []) (eq_false left 0 (λ none. let z : left ≡ 0 = none in omega (arith, some, z)))) ∙ ap (λ n. with_left o n) is)

pub enters_none : (o : BookOrder) (rs : List BookOrder) (left : ℕ) → left ≡ left_of o.quantity (fills_of o rs) → left ≡ 0 → all_settled (fills_of o rs) rs ≡ entered o (fills_of o rs) rs
enters_none o rs left is none =
    sym (append-nil (all_settled (fills_of o rs) rs))
    ∙ ap (λ l. all_settled (fills_of o rs) rs ++ l) (sym (if_true (left == 0) [] (record o { quantity = left } ∷ []) (eq_true left 0 none)) ∙ ap (λ n. with_left o n) is)
