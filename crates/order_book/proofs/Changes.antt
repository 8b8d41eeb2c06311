-- One entry of a map is added, changed or taken out: what this makes of the list of orders.
use Rattle.std.proofs.Common.{◌≡◌, ℕ, ◌-◌, ◌<◌, ◌==◌, Bool, true, false, cond, if◌then◌else◌, inl, inr, List, [], ◌∷◌, ◌++◌, Some, None, refl, sym, ap, ◌∙◌, arith, nat_cmp, is_eq, Ordering, Less, Equal, Greater}
use Rattle.std.specs.Map.{values_of}
use Rattle.std.specs.Ordering.{MatchOrdering, match_ordering}
use Rattle.std.specs.Cmp.{Equal-is}
use Rattle.std.specs.BTreeMap.{insert_entry}
use Rattle.std.proofs.lemmas.Cmp.{ranked}
use Rattle.order_book.specs.declared.entries.BookOrder.{BookOrder}
use Rattle.order_book.specs.declared.entries.Fill.{Fill}
use Rattle.order_book.specs.Book.{order_with, with_left, settled, without}
use Rattle.order_book.specs.Index.{replaced}
use Rattle.order_book.proofs.Lookups.{Has, Ascending, Single, at_same, at_other, cut}
use Rattle.order_book.proofs.Best.{if_true, if_false}
use Rattle.order_book.proofs.Walk.{eq_true, eq_false, cond_true, cond_false}

-- ---- the order of an identifier

pub order_here : (c : ℕ) (r : BookOrder) (rs : List BookOrder) → r.cl_id ≡ c → order_with c (r ∷ rs) ≡ Some r
order_here c r rs same = cond_true (r.cl_id == c) (Some r) (order_with c rs) (eq_true r.cl_id c same)

pub order_later : (c : ℕ) (r : BookOrder) (rs : List BookOrder) → (r.cl_id ≡ c → ⊥) → order_with c (r ∷ rs) ≡ order_with c rs
order_later c r rs apart = cond_false (r.cl_id == c) (Some r) (order_with c rs) (eq_false r.cl_id c apart)

pub order_none : (es : List (ℕ × BookOrder)) (c : ℕ) → ((a : ℕ) (r : BookOrder) → Has es a r → r.cl_id ≡ c → ⊥) → order_with c (values_of es) ≡ None
order_none [] c none = refl
order_none (e ∷ es) c none =
    order_later c e.1 (values_of es) (none e.0 e.1 (inl (refl, refl))) ∙ order_none es c (λ a r h. none a r (inr h))

tail_single : (e : ℕ × BookOrder) (es : List (ℕ × BookOrder)) → Single (e ∷ es) → Single es
tail_single e es single a b r q h k same = single a b r q (inr h) (inr k) same

-- another order than the first has another identifier
first_apart : (e : ℕ × BookOrder) (es : List (ℕ × BookOrder)) (a : ℕ) (r : BookOrder) → Ascending (e ∷ es) → Single (e ∷ es) → Has es a r → e.1.cl_id ≡ r.cl_id → ⊥
first_apart e es a r up single h same =
    let lt : e.0 < a = up.0 a r h in
    let is : e.0 ≡ a = single e.0 a e.1 r (inl (refl, refl)) (inr h) same in
    omega (arith, lt, is)

first_other : (e : ℕ × BookOrder) (es : List (ℕ × BookOrder)) (a : ℕ) (r : BookOrder) → Ascending (e ∷ es) → Has es a r → a ≡ e.0 → ⊥
first_other e es a r up h is =
    let lt : e.0 < a = up.0 a r h in
    let same : a ≡ e.0 = is in
    omega (arith, lt, same)

pub order_is : (es : List (ℕ × BookOrder)) (c a : ℕ) (r : BookOrder) → Ascending es → Single es → Has es a r → r.cl_id ≡ c → order_with c (values_of es) ≡ Some r
order_is [] c a r up single h id = absurd h
order_is (e ∷ es) c a r up single (inl h) id =
    order_here c e.1 (values_of es) (ap (λ (x : BookOrder). x.cl_id) (sym h.1) ∙ id) ∙ ap Some (sym h.1)
order_is (e ∷ es) c a r up single (inr h) id =
    order_later c e.1 (values_of es) (λ same. first_apart e es a r up single h (same ∙ sym id))
    ∙ order_is es c a r up.1 (tail_single e es single) h id

-- ---- taken out

pub without_cut : (es : List (ℕ × BookOrder)) (c a : ℕ) (r : BookOrder) → Ascending es → Single es → Has es a r → r.cl_id ≡ c → values_of (cut a es) ≡ without c (values_of es)
without_cut [] c a r up single h id = absurd h
without_cut (e ∷ es) c a r up single (inl h) id =
    ap (λ l. values_of l) (cond_true (is_eq (nat_cmp a e.0)) es (e ∷ cut a es) (at_same a e.0 h.0))
    ∙ sym (if_true (e.1.cl_id == c) (values_of es) (e.1 ∷ without c (values_of es)) (eq_true e.1.cl_id c (ap (λ (x : BookOrder). x.cl_id) (sym h.1) ∙ id)))
without_cut (e ∷ es) c a r up single (inr h) id =
    ap (λ l. values_of l) (cond_false (is_eq (nat_cmp a e.0)) es (e ∷ cut a es) (at_other a e.0 (first_other e es a r up h)))
    ∙ (ap (λ l. e.1 ∷ l) (without_cut es c a r up.1 (tail_single e es single) h id)
    ∙ sym (if_false (e.1.cl_id == c) (values_of es) (e.1 ∷ without c (values_of es))
    (eq_false e.1.cl_id c (λ same. first_apart e es a r up single h (same ∙ sym id)))))

pub without_none : (rs : List BookOrder) (c : ℕ) → order_with c rs ≡ None → without c rs ≡ rs
without_none [] c none = refl
without_none (r ∷ rs) c none = by_test (r.cl_id == c) none (λ k. without_none rs c k)
  where
    by_test : (t : Bool) → cond t (Some r) (order_with c rs) ≡ None → (order_with c rs ≡ None → without c rs ≡ rs) → (if t then rs else r ∷ without c rs) ≡ r ∷ rs
    by_test true h ih = absurd cc
    by_test false h ih = ap (λ l. r ∷ l) (ih h)

-- ---- changed

greater_from : (a b : ℕ) → b < a → nat_cmp a b ≡ Greater
greater_from a b lt = pick (nat_cmp a b) (ranked a b (nat_cmp a b) refl)
  where
    pick : (o : Ordering) → MatchOrdering o (a < b) (a ≡ b) (b < a) → o ≡ Greater
    pick Less m = let k : a < b = m in absurd (omega (arith, k, lt))
    pick Equal m = let k : a ≡ b = m in absurd (omega (arith, k, lt))
    pick Greater m = refl

equal_from : (a b : ℕ) → a ≡ b → nat_cmp a b ≡ Equal
equal_from a b e = (Equal-is (nat_cmp a b)).0 (at_same a b e)

put_at : (e : ℕ × BookOrder) (es : List (ℕ × BookOrder)) (a : ℕ) (q : BookOrder) (o : Ordering) → nat_cmp a e.0 ≡ o
    → insert_entry nat_cmp (e ∷ es) a q ≡ match_ordering o ((a, q) ∷ e ∷ es) ((e.0, q) ∷ es) (e ∷ insert_entry nat_cmp es a q)
put_at e es a q o is = ap (λ c. match_ordering c ((a, q) ∷ e ∷ es) ((e.0, q) ∷ es) (e ∷ insert_entry nat_cmp es a q)) is

abbrev leaving : BookOrder → ℕ → BookOrder
leaving r left = record r { quantity = left }

pub replaced_put : (es : List (ℕ × BookOrder)) (c a left : ℕ) (r : BookOrder) → Ascending es → Single es → Has es a r → r.cl_id ≡ c
    → values_of (insert_entry nat_cmp es a (record r { quantity = left })) ≡ replaced c left (values_of es)
replaced_put [] c a left r up single h id = absurd h
replaced_put (e ∷ es) c a left r up single (inl h) id =
    ap (λ l. values_of l) (put_at e es a (leaving r left) Equal (equal_from a e.0 h.0))
    ∙ (ap (λ x. leaving x left ∷ values_of es) h.1
    ∙ sym (if_true (e.1.cl_id == c) (leaving e.1 left ∷ values_of es) (e.1 ∷ replaced c left (values_of es))
    (eq_true e.1.cl_id c (ap (λ (x : BookOrder). x.cl_id) (sym h.1) ∙ id))))
replaced_put (e ∷ es) c a left r up single (inr h) id =
    ap (λ l. values_of l) (put_at e es a (leaving r left) Greater (greater_from a e.0 (up.0 a r h)))
    ∙ (ap (λ l. e.1 ∷ l) (replaced_put es c a left r up.1 (tail_single e es single) h id)
    ∙ sym (if_false (e.1.cl_id == c) (leaving e.1 left ∷ values_of es) (e.1 ∷ replaced c left (values_of es))
    (eq_false e.1.cl_id c (λ same. first_apart e es a r up single h (same ∙ sym id)))))

pub replaced_none : (rs : List BookOrder) (c left : ℕ) → order_with c rs ≡ None → replaced c left rs ≡ rs
replaced_none [] c left none = refl
replaced_none (r ∷ rs) c left none = by_test (r.cl_id == c) none (λ k. replaced_none rs c left k)
  where
    by_test : (t : Bool) → cond t (Some r) (order_with c rs) ≡ None → (order_with c rs ≡ None → replaced c left rs ≡ rs)
        → (if t then leaving r left ∷ rs else r ∷ replaced c left rs) ≡ r ∷ rs
    by_test true h ih = absurd cc
    by_test false h ih = ap (λ l. r ∷ l) (ih h)

-- ---- added behind all

pub put_behind : (es : List (ℕ × BookOrder)) (a : ℕ) (q : BookOrder) → ((b : ℕ) (x : BookOrder) → Has es b x → b < a)
    → values_of (insert_entry nat_cmp es a q) ≡ values_of es ++ q ∷ []
put_behind [] a q all = refl
put_behind (e ∷ es) a q all =
    ap (λ l. values_of l) (put_at e es a q Greater (greater_from a e.0 (all e.0 e.1 (inl (refl, refl)))))
    ∙ ap (λ l. e.1 ∷ l) (put_behind es a q (λ b x h. all b x (inr h)))

-- ---- settled, by what is left

pub settled_none : (f : Fill) (rs : List BookOrder) → order_with f.cl_id rs ≡ None → settled f rs ≡ rs
settled_none f [] none = refl
settled_none f (r ∷ rs) none = by_test (r.cl_id == f.cl_id) none (λ k. settled_none f rs k)
  where
    by_test : (t : Bool) → cond t (Some r) (order_with f.cl_id rs) ≡ None → (order_with f.cl_id rs ≡ None → settled f rs ≡ rs)
        → (if t then with_left r (r.quantity - f.quantity) ++ rs else r ∷ settled f rs) ≡ r ∷ rs
    by_test true h ih = absurd cc
    by_test false h ih = ap (λ l. r ∷ l) (ih h)

with_none : (r : BookOrder) (left : ℕ) → left ≡ 0 → with_left r left ≡ []
with_none r left e = if_true (left == 0) [] (leaving r left ∷ []) (eq_true left 0 e)

with_some : (r : BookOrder) (left : ℕ) → (left ≡ 0 → ⊥) → with_left r left ≡ leaving r left ∷ []
with_some r left f = if_false (left == 0) [] (leaving r left ∷ []) (eq_false left 0 f)

-- the order that is met has nothing left
pub settled_all : (f : Fill) (rs : List BookOrder) (r : BookOrder) → order_with f.cl_id rs ≡ Some r → r.quantity - f.quantity ≡ 0 → settled f rs ≡ without f.cl_id rs
settled_all f [] r is none = refl
settled_all f (q ∷ rs) r is none = by_test (q.cl_id == f.cl_id) is (λ k. settled_all f rs r k none)
  where
    by_test : (t : Bool) → cond t (Some q) (order_with f.cl_id rs) ≡ Some r → (order_with f.cl_id rs ≡ Some r → settled f rs ≡ without f.cl_id rs)
        → (if t then with_left q (q.quantity - f.quantity) ++ rs else q ∷ settled f rs) ≡ (if t then rs else q ∷ without f.cl_id rs)
    by_test true h ih =
        let same : q ≡ r = (let k : Some q ≡ Some r = h in cc) in
        ap (λ l. l ++ rs) (with_none q (q.quantity - f.quantity) (ap (λ (x : BookOrder). x.quantity - f.quantity) same ∙ none))
    by_test false h ih = ap (λ l. q ∷ l) (ih h)

-- the order that is met has so much left
pub settled_some : (f : Fill) (rs : List BookOrder) (r : BookOrder) → order_with f.cl_id rs ≡ Some r → (r.quantity - f.quantity ≡ 0 → ⊥)
    → settled f rs ≡ replaced f.cl_id (r.quantity - f.quantity) rs
settled_some f [] r is some = refl
settled_some f (q ∷ rs) r is some = by_test (q.cl_id == f.cl_id) is (λ k. settled_some f rs r k some)
  where
    by_test : (t : Bool) → cond t (Some q) (order_with f.cl_id rs) ≡ Some r → (order_with f.cl_id rs ≡ Some r → settled f rs ≡ replaced f.cl_id (r.quantity - f.quantity) rs)
        → (if t then with_left q (q.quantity - f.quantity) ++ rs else q ∷ settled f rs) ≡ (if t then leaving q (r.quantity - f.quantity) ∷ rs else q ∷ replaced f.cl_id (r.quantity - f.quantity) rs)
    by_test true h ih =
        let same : q ≡ r = (let k : Some q ≡ Some r = h in cc) in
        let amount : q.quantity - f.quantity ≡ r.quantity - f.quantity = ap (λ (x : BookOrder). x.quantity - f.quantity) same in
        ap (λ l. l ++ rs) (with_some q (q.quantity - f.quantity) (λ z. some (sym amount ∙ z)) ∙ ap (λ n. leaving q n ∷ []) amount)
    by_test false h ih = ap (λ l. q ∷ l) (ih h)
