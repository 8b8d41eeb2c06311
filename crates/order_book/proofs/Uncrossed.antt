-- The book is never crossed, and no two orders rest under one identifier.
use Rattle.std.proofs.Common.{◌≡◌, ℕ, zero, suc, ◌-◌, ◌≤◌, min, ◌==◌, Bool, true, false, ◌&&◌, cond, if◌then◌else◌, int_le, ℤ, ◌⊎◌, inl, inr, List, [], ◌∷◌, ◌++◌, length, All, Contains, is_some, Option, Some, None, Result, Ok, Err, OnOk, OnErr, refl, sym, ap, subst, ◌∙◌, arith, append-nil}
use Rattle.std.proofs.lemmas.List.Elements.{All-nil, All-cons, All-weaker, All-contains, Contains-append_right}
use Rattle.order_desk.specs.declared.order.Order.{Order}
use Rattle.order_desk.specs.declared.order.Order.TheVariants.{New, Cancel}
use Rattle.order_desk.specs.declared.order.NewOrder.{NewOrder}
use Rattle.order_desk.specs.declared.order.Side.{Side}
use Rattle.order_desk.specs.declared.order.Side.TheVariants.{Buy, Sell}
use Rattle.order_desk.specs.declared.order.Symbol.{Symbol}
use Rattle.order_desk.specs.declared.report.RejectCode.{RejectCode}
use Rattle.order_desk.specs.declared.report.RejectCode.TheVariants as code
use Rattle.order_desk.specs.Reports.{crosses, refusal_of}
use Rattle.order_book.specs.declared.entries.BookOrder.{BookOrder}
use Rattle.order_book.specs.declared.entries.Fill.{Fill}
use Rattle.order_book.specs.Book.{is_opposite, is_same, meets, beats, better_of, best, order_with, with_left, settled, all_settled, without, fill_of, fills, fills_of, left_of, entered, on_side, unless_refused, admitted, book_with, book_after, book_behind}
use Rattle.order_book.specs.Laws.{IsUncrossed, AreDistinct, IsBook, BookStaysUncrossed, AcceptedIsNew}
use Rattle.order_book.proofs.Lookups.{both}
use Rattle.order_book.proofs.Best.{if_true, if_false}
use Rattle.order_book.proofs.Walk.{eq_true, eq_from, eq_false, nothing_met, nothing_left, one_met}
use Rattle.order_book.proofs.Changes.{order_here, order_later}
use Rattle.order_book.proofs.Queue.{symbol_of, symbol_same}

abbrev pub In : List BookOrder → BookOrder → Type 0
In [] x = ⊥
In (r ∷ rs) x = (x ≡ r) ⊎ In rs x

all_in : (rs : List BookOrder) → All (In rs) rs
all_in [] = All-nil (In [])
all_in (r ∷ rs) = All-cons (In (r ∷ rs)) r rs (inl refl) (All-weaker (In rs) (In (r ∷ rs)) (λ x h. inr h) rs (all_in rs))

pub in_from : (rs : List BookOrder) (x : BookOrder) → Contains rs x → In rs x
in_from rs x c = All-contains (In rs) rs x (all_in rs) c

-- ---- identifiers

pub none_by : (c : ℕ) (r : BookOrder) (rs : List BookOrder) → order_with c (r ∷ rs) ≡ None → (r.cl_id ≡ c → ⊥) × (order_with c rs ≡ None)
none_by c r rs h = (
  λ same. let e : None ≡ Some r = sym h ∙ order_here c r rs same in cc,
  sym (order_later c r rs (λ same. let e : None ≡ Some r = sym h ∙ order_here c r rs same in cc)) ∙ h,
)

pub either_id : (a b : ℕ) → (a ≡ b) ⊎ (a ≡ b → ⊥)
either_id a b = by_test (a == b) refl
  where
    by_test : (t : Bool) → (a == b) ≡ t → (a ≡ b) ⊎ (a ≡ b → ⊥)
    by_test true e = inl (eq_from a b e)
    by_test false e = inr (λ is. both (a == b) (eq_true a b is) e)

pub in_none : (c : ℕ) (rs : List BookOrder) (x : BookOrder) → order_with c rs ≡ None → In rs x → x.cl_id ≡ c → ⊥
in_none c [] x h i same = i
in_none c (r ∷ rs) x h (inl i) same = (none_by c r rs h).0 (ap (λ (z : BookOrder). z.cl_id) (sym i) ∙ same)
in_none c (r ∷ rs) x h (inr i) same = in_none c rs x (none_by c r rs h).1 i same

pub none_in : (c : ℕ) (rs : List BookOrder) → ((x : BookOrder) → In rs x → x.cl_id ≡ c → ⊥) → order_with c rs ≡ None
none_in c [] f = refl
none_in c (r ∷ rs) f = order_later c r rs (f r (inl refl)) ∙ none_in c rs (λ x i. f x (inr i))

-- the order that rests is found by its identifier
pub in_order : (rs : List BookOrder) (x : BookOrder) → AreDistinct rs → In rs x → order_with x.cl_id rs ≡ Some x
in_order [] x d i = absurd i
in_order (r ∷ rs) x d (inl i) = order_here x.cl_id r rs (ap (λ (z : BookOrder). z.cl_id) (sym i)) ∙ ap Some (sym i)
in_order (r ∷ rs) x d (inr i) = order_later x.cl_id r rs (λ same. in_none r.cl_id rs x d.0 i (sym same)) ∙ in_order rs x d.1 i

pub found_in : (c : ℕ) (rs : List BookOrder) (x : BookOrder) → order_with c rs ≡ Some x → In rs x × (x.cl_id ≡ c)
found_in c [] x h = absurd (let e : None ≡ Some x = h in cc)
found_in c (r ∷ rs) x h = by_case (either_id r.cl_id c) (λ k. found_in c rs x k)
  where
    by_case : (r.cl_id ≡ c) ⊎ (r.cl_id ≡ c → ⊥) → (order_with c rs ≡ Some x → In rs x × (x.cl_id ≡ c)) → In (r ∷ rs) x × (x.cl_id ≡ c)
    by_case (inl same) ih =
        let e : Some r ≡ Some x = sym (order_here c r rs same) ∙ h in
        let is : r ≡ x = cc in
        (inl (sym is), ap (λ (z : BookOrder). z.cl_id) (sym is) ∙ same)
    by_case (inr apart) ih =
        let k = ih (sym (order_later c r rs apart) ∙ h) in
        (inr k.0, k.1)

-- ---- an order with less left

-- x is one of the orders, but for its quantity
pub record Came (rs : List BookOrder) (x : BookOrder) : Type 0 where
  pub from : BookOrder
  pub among : In rs from
  pub id : x.cl_id ≡ from.cl_id
  pub side : x.side ≡ from.side
  pub symbol : x.symbol ≡ from.symbol
  pub price : x.price ≡ from.price

itself : (rs : List BookOrder) (x : BookOrder) → In rs x → Came rs x
itself rs x i = record { from = x; among = i; id = refl; side = refl; symbol = refl; price = refl }

came_later : (r : BookOrder) (rs : List BookOrder) (x : BookOrder) → Came rs x → Came (r ∷ rs) x
came_later r rs x c = record { from = c.from; among = inr c.among; id = c.id; side = c.side; symbol = c.symbol; price = c.price }

came_less : (r : BookOrder) (left : ℕ) (rs : List BookOrder) (x : BookOrder) → x ≡ record r { quantity = left } → Came (r ∷ rs) x
came_less r left rs x is = record {
  from = r;
  among = inl refl;
  id = ap (λ (z : BookOrder). z.cl_id) is;
  side = ap (λ (z : BookOrder). z.side) is;
  symbol = ap (λ (z : BookOrder). z.symbol) is;
  price = ap (λ (z : BookOrder). z.price) is;
}

pub with_in : (r : BookOrder) (left : ℕ) (rs : List BookOrder) (x : BookOrder) → In (with_left r left ++ rs) x → Came (r ∷ rs) x
with_in r left rs x i = by_test (left == 0) i
  where
    by_test : (t : Bool) → In ((if t then [] else record r { quantity = left } ∷ []) ++ rs) x → Came (r ∷ rs) x
    by_test true i = came_later r rs x (itself rs x i)
    by_test false (inl i) = came_less r left rs x i
    by_test false (inr i) = came_later r rs x (itself rs x i)

pub settled_in : (f : Fill) (rs : List BookOrder) (x : BookOrder) → In (settled f rs) x → Came rs x
settled_in f [] x i = absurd i
settled_in f (r ∷ rs) x i = by_test (r.cl_id == f.cl_id) (λ k. settled_in f rs x k) i
  where
    by_test : (t : Bool) → (In (settled f rs) x → Came rs x) → In (if t then with_left r (r.quantity - f.quantity) ++ rs else r ∷ settled f rs) x → Came (r ∷ rs) x
    by_test true ih i = with_in r (r.quantity - f.quantity) rs x i
    by_test false ih (inl i) = itself (r ∷ rs) x (inl i)
    by_test false ih (inr i) = came_later r rs x (ih i)

came_from : (f : Fill) (rs : List BookOrder) (x : BookOrder) → Came (settled f rs) x → Came rs x
came_from f rs x c =
    let k = settled_in f rs c.from c.among in
    record { from = k.from; among = k.among; id = c.id ∙ k.id; side = c.side ∙ k.side; symbol = c.symbol ∙ k.symbol; price = c.price ∙ k.price }

pub all_settled_in : (fs : List Fill) (rs : List BookOrder) (x : BookOrder) → In (all_settled fs rs) x → Came rs x
all_settled_in [] rs x i = itself rs x i
all_settled_in (f ∷ fs) rs x i = came_from f rs x (all_settled_in fs (settled f rs) x i)

-- ---- distinct identifiers

pub settled_fresh : (c : ℕ) (f : Fill) (rs : List BookOrder) → order_with c rs ≡ None → order_with c (settled f rs) ≡ None
settled_fresh c f rs h = none_in c (settled f rs) (λ x i same. let k = settled_in f rs x i in in_none c rs k.from h k.among (sym k.id ∙ same))

with_distinct : (r : BookOrder) (left : ℕ) (rs : List BookOrder) → AreDistinct (r ∷ rs) → AreDistinct (with_left r left ++ rs)
with_distinct r left rs d = by_test (left == 0)
  where
    by_test : (t : Bool) → AreDistinct ((if t then [] else record r { quantity = left } ∷ []) ++ rs)
    by_test true = d.1
    by_test false = d

pub settled_distinct : (f : Fill) (rs : List BookOrder) → AreDistinct rs → AreDistinct (settled f rs)
settled_distinct f [] d = tt
settled_distinct f (r ∷ rs) d = by_test (r.cl_id == f.cl_id) (settled_distinct f rs d.1)
  where
    by_test : (t : Bool) → AreDistinct (settled f rs) → AreDistinct (if t then with_left r (r.quantity - f.quantity) ++ rs else r ∷ settled f rs)
    by_test true ih = with_distinct r (r.quantity - f.quantity) rs d
    by_test false ih = (settled_fresh r.cl_id f rs d.0, ih)

pub all_settled_distinct : (fs : List Fill) (rs : List BookOrder) → AreDistinct rs → AreDistinct (all_settled fs rs)
all_settled_distinct [] rs d = d
all_settled_distinct (f ∷ fs) rs d = all_settled_distinct fs (settled f rs) (settled_distinct f rs d)

in_behind : (rs qs : List BookOrder) (x : BookOrder) → In (rs ++ qs) x → In rs x ⊎ In qs x
in_behind [] qs x i = inr i
in_behind (r ∷ rs) qs x (inl i) = inl (inl i)
in_behind (r ∷ rs) qs x (inr i) = by_case (in_behind rs qs x i)
  where
    by_case : In rs x ⊎ In qs x → In (r ∷ rs) x ⊎ In qs x
    by_case (inl k) = inl (inr k)
    by_case (inr k) = inr k

push_distinct : (rs : List BookOrder) (o : BookOrder) → AreDistinct rs → order_with o.cl_id rs ≡ None → AreDistinct (rs ++ o ∷ [])
push_distinct [] o d h = (refl, tt)
push_distinct (r ∷ rs) o d h =
    let n = none_by o.cl_id r rs h in (
      none_in r.cl_id (rs ++ o ∷ []) (λ x i same. fresh x same (in_behind rs (o ∷ []) x i)),
      push_distinct rs o d.1 n.1,
    )
  where
    fresh : (x : BookOrder) → x.cl_id ≡ r.cl_id → In rs x ⊎ In (o ∷ []) x → ⊥
    fresh x same (inl i) = in_none r.cl_id rs x d.0 i same
    fresh x same (inr (inl i)) = (none_by o.cl_id r rs h).0 (sym same ∙ ap (λ (z : BookOrder). z.cl_id) i)
    fresh x same (inr (inr i)) = i

pub without_in : (c : ℕ) (rs : List BookOrder) (x : BookOrder) → In (without c rs) x → In rs x
without_in c [] x i = i
without_in c (r ∷ rs) x i = by_test (r.cl_id == c) (λ k. without_in c rs x k) i
  where
    by_test : (t : Bool) → (In (without c rs) x → In rs x) → In (if t then rs else r ∷ without c rs) x → In (r ∷ rs) x
    by_test true ih i = inr i
    by_test false ih (inl i) = inl i
    by_test false ih (inr i) = inr (ih i)

without_distinct : (c : ℕ) (rs : List BookOrder) → AreDistinct rs → AreDistinct (without c rs)
without_distinct c [] d = tt
without_distinct c (r ∷ rs) d = by_test (r.cl_id == c) (without_distinct c rs d.1)
  where
    by_test : (t : Bool) → AreDistinct (without c rs) → AreDistinct (if t then rs else r ∷ without c rs)
    by_test true ih = d.1
    by_test false ih = (none_in r.cl_id (without c rs) (λ x i same. in_none r.cl_id rs x d.0 (without_in c rs x i) same), ih)

-- ---- what may be met

meets_like : (a b c d : BookOrder) → a.side ≡ c.side → a.symbol ≡ c.symbol → a.price ≡ c.price → b.side ≡ d.side → b.symbol ≡ d.symbol → b.price ≡ d.price → meets a b ≡ meets c d
meets_like a b c d s y p t z q = λ i. is_opposite (s i) (t i) && (is_same (y i) (z i) && crosses (Some (s i)) (p i) (q i))

opposite_back : (a b : Side) → is_opposite a b ≡ is_opposite b a
opposite_back Buy Buy = refl
opposite_back Buy Sell = refl
opposite_back Sell Buy = refl
opposite_back Sell Sell = refl

unequal_sides : (a : Side) → is_opposite a a ≡ false
unequal_sides Buy = refl
unequal_sides Sell = refl

both_sides : (a b : Side) (s t : Bool) (p q : ℤ) → s ≡ t → (is_opposite a b && (s && crosses (Some a) p q)) ≡ (is_opposite b a && (t && crosses (Some b) q p))
both_sides Buy Buy s t p q e = refl
both_sides Buy Sell s t p q e = ap (λ z. z && int_le q p) e
both_sides Sell Buy s t p q e = ap (λ z. z && int_le p q) e
both_sides Sell Sell s t p q e = refl

same_back : (a b : Symbol) → is_same a b ≡ is_same b a
same_back a b = by_tests (is_same a b) (is_same b a) refl refl
  where
    by_tests : (s t : Bool) → is_same a b ≡ s → is_same b a ≡ t → s ≡ t
    by_tests true true e f = refl
    by_tests true false e f = absurd (both (is_same b a) (symbol_same b a (sym (symbol_of a b e))) f)
    by_tests false true e f = absurd (both (is_same a b) (symbol_same a b (sym (symbol_of b a f))) e)
    by_tests false false e f = refl

meets_back : (a b : BookOrder) → meets a b ≡ meets b a
meets_back a b = both_sides a.side b.side (is_same a.symbol b.symbol) (is_same b.symbol a.symbol) a.price b.price (same_back a.symbol b.symbol)

never_itself : (a b : BookOrder) → a.side ≡ b.side → meets a b ≡ false
never_itself a b s = ap (λ z. z && (is_same a.symbol b.symbol && crosses (Some a.side) a.price b.price)) (ap (λ z. is_opposite a.side z) (sym s) ∙ unequal_sides a.side)

-- where there is no best order, none may be met
pub none_met : (o : BookOrder) (rs : List BookOrder) → best o rs ≡ None → (x : BookOrder) → In rs x → meets o x ≡ false
none_met o [] h x i = absurd i
none_met o (r ∷ rs) h x i = by_test (meets o r) refl h (λ k. none_met o rs k x) i
  where
    by_test : (t : Bool) → meets o r ≡ t → (if t then Some (better_of r (best o rs)) else best o rs) ≡ None → (best o rs ≡ None → In rs x → meets o x ≡ false) → In (r ∷ rs) x → meets o x ≡ false
    by_test true e h ih i = absurd (let k : Some (better_of r (best o rs)) ≡ None = h in cc)
    by_test false e h ih (inl i) = ap (λ z. meets o z) i ∙ e
    by_test false e h ih (inr i) = ih h i

better_in : (r w : BookOrder) (rs : List BookOrder) (rest : Option BookOrder) → ((x : BookOrder) → rest ≡ Some x → In rs x) → better_of r rest ≡ w → In (r ∷ rs) w
better_in r w rs None f h = inl (sym h)
better_in r w rs (Some x) f h = by_test (beats x r) h
  where
    by_test : (t : Bool) → (if t then x else r) ≡ w → In (r ∷ rs) w
    by_test true h = inr (subst (λ z. In rs z) h (f x refl))
    by_test false h = inl (sym h)

pub best_in : (o : BookOrder) (rs : List BookOrder) (w : BookOrder) → best o rs ≡ Some w → In rs w
best_in o [] w h = absurd (let e : None ≡ Some w = h in cc)
best_in o (r ∷ rs) w h = by_test (meets o r) (λ x k. best_in o rs x k) h
  where
    by_test : (t : Bool) → ((x : BookOrder) → best o rs ≡ Some x → In rs x) → (if t then Some (better_of r (best o rs)) else best o rs) ≡ Some w → In (r ∷ rs) w
    by_test true ih h = better_in r w rs (best o rs) ih (let e : Some (better_of r (best o rs)) ≡ Some w = h in cc)
    by_test false ih h = inr (ih w h)

-- ---- the last round

settled_length : (f : Fill) (rs : List BookOrder) (r : BookOrder) → order_with f.cl_id rs ≡ Some r → r.quantity - f.quantity ≡ 0 → suc (length (settled f rs)) ≡ length rs
settled_length f [] r h none = absurd (let e : None ≡ Some r = h in cc)
settled_length f (q ∷ rs) r h none = by_test (q.cl_id == f.cl_id) h (λ k. settled_length f rs r k none)
  where
    by_test : (t : Bool) → cond t (Some q) (order_with f.cl_id rs) ≡ Some r → (order_with f.cl_id rs ≡ Some r → suc (length (settled f rs)) ≡ length rs)
        → suc (length (if t then with_left q (q.quantity - f.quantity) ++ rs else q ∷ settled f rs)) ≡ suc (length rs)
    by_test true h ih =
        let e : Some q ≡ Some r = h in
        let same : q ≡ r = cc in
        let gone : q.quantity - f.quantity ≡ 0 = ap (λ (x : BookOrder). x.quantity - f.quantity) same ∙ none in
        ap (λ n. suc (length (with_left q n ++ rs))) gone
    by_test false h ih = ap suc (ih h)

abbrev Done : ℕ → BookOrder → ℕ → List BookOrder → Type 0
Done n o left rs = (left_of left (fills n o left rs) ≡ 0) ⊎ (best o (all_settled (fills n o left rs) rs) ≡ None)

done_by : (n : ℕ) (o : BookOrder) (left : ℕ) (rs : List BookOrder) (fs : List Fill) → fills n o left rs ≡ fs → (left_of left fs ≡ 0) ⊎ (best o (all_settled fs rs) ≡ None) → Done n o left rs
done_by n o left rs fs is h = subst (λ l. (left_of left l ≡ 0) ⊎ (best o (all_settled l rs) ≡ None)) (sym is) h

round_done : (n : ℕ) (o : BookOrder) (left : ℕ) (rs : List BookOrder) (r : BookOrder) → AreDistinct rs → length rs ≤ suc n → best o rs ≡ Some r
    → (AreDistinct (settled (fill_of left r) rs) → length (settled (fill_of left r) rs) ≤ n → Done n o (left - min left r.quantity) (settled (fill_of left r) rs))
    → (k : ℕ) → k ≡ left - min left r.quantity → Done n o (left - min left r.quantity) (settled (fill_of left r) rs)
round_done n o left rs r d few is ih zero e =
    done_by n o (left - min left r.quantity) (settled (fill_of left r) rs) []
    (ap (λ z. fills n o z (settled (fill_of left r) rs)) (sym e) ∙ nothing_left n o (settled (fill_of left r) rs)) (inl (sym e))
round_done n o left rs r d few is ih (suc k) e =
    let gone : r.quantity - min left r.quantity ≡ 0 = omega (arith, e) in
    let one : suc (length (settled (fill_of left r) rs)) ≡ length rs = settled_length (fill_of left r) rs r (in_order rs r d (best_in o rs r is)) gone in
    ih (settled_distinct (fill_of left r) rs d) (omega (arith, few, one))

round_by : (n : ℕ) (o : BookOrder) (left : ℕ) (rs : List BookOrder) → AreDistinct rs → length rs ≤ suc n
    → ((less : ℕ) (qs : List BookOrder) → AreDistinct qs → length qs ≤ n → Done n o less qs)
    → (left ≡ 0) ⊎ (left ≡ 0 → ⊥) → (b : Option BookOrder) → best o rs ≡ b → Done (suc n) o left rs
round_by n o left rs d few ih (inl none) b is = done_by (suc n) o left rs [] (ap (λ z. fills (suc n) o z rs) none ∙ nothing_left (suc n) o rs) (inl none)
round_by n o left rs d few ih (inr some) None is = done_by (suc n) o left rs [] (nothing_met (suc n) o left rs is) (inr is)
round_by n o left rs d few ih (inr some) (Some r) is =
    done_by (suc n) o left rs (fill_of left r ∷ fills n o (left - min left r.quantity) (settled (fill_of left r) rs)) (one_met n o left rs r some is)
    (round_done n o left rs r d few is (λ e l. ih (left - min left r.quantity) (settled (fill_of left r) rs) e l) (left - min left r.quantity) refl)

-- behind the rounds nothing is left of the order that came in, or it may meet none that rests
pub rounds_suffice : (n : ℕ) (o : BookOrder) (left : ℕ) (rs : List BookOrder) → AreDistinct rs → length rs ≤ n → Done n o left rs
rounds_suffice zero o left [] d few = inr refl
rounds_suffice zero o left (r ∷ rs) d few = absurd (omega (arith, few))
rounds_suffice (suc n) o left rs d few = round_by n o left rs d few (λ less qs e l. rounds_suffice n o less qs e l) (either_id left 0) (best o rs) refl

-- ---- the book behind an order

contains_here : (r : BookOrder) (rs : List BookOrder) → Contains (r ∷ rs) r
contains_here r rs = (0, omega arith, refl)

contains_later : (r : BookOrder) (rs : List BookOrder) (x : BookOrder) → Contains rs x → Contains (r ∷ rs) x
contains_later r rs x c = Contains-append_right (r ∷ []) rs x c

pub contains_from : (rs : List BookOrder) (x : BookOrder) → In rs x → Contains rs x
contains_from [] x i = absurd i
contains_from (r ∷ rs) x (inl i) = subst (λ z. Contains (r ∷ rs) z) (sym i) (contains_here r rs)
contains_from (r ∷ rs) x (inr i) = contains_later r rs x (contains_from rs x i)

came_apart : (rs : List BookOrder) (a b : BookOrder) → IsUncrossed rs → Came rs a → Came rs b → meets a b ≡ false
came_apart rs a b u c d =
    meets_like a b c.from d.from c.side c.symbol c.price d.side d.symbol d.price
    ∙ u c.from d.from (contains_from rs c.from c.among) (contains_from rs d.from d.among)

-- some orders of an uncrossed book, with an order behind them that may meet none of them
push_book : (rs qs : List BookOrder) (o : BookOrder) → IsBook rs → AreDistinct qs → ((x : BookOrder) → In qs x → Came rs x) → order_with o.cl_id rs ≡ None → ((x : BookOrder) → In qs x → meets o x ≡ false) → IsBook (qs ++ o ∷ [])
push_book rs qs o b d came fresh none = record {
  distinct = push_distinct qs o d (none_in o.cl_id qs (λ x i same. let c = came x i in in_none o.cl_id rs c.from fresh c.among (sym c.id ∙ same)));
  uncrossed = λ x y i k. apart x y (in_behind qs (o ∷ []) x (in_from (qs ++ o ∷ []) x i)) (in_behind qs (o ∷ []) y (in_from (qs ++ o ∷ []) y k));
}
  where
    apart : (x y : BookOrder) → In qs x ⊎ In (o ∷ []) x → In qs y ⊎ In (o ∷ []) y → meets x y ≡ false
    apart x y (inl i) (inl k) = came_apart rs x y b.uncrossed (came x i) (came y k)
    apart x y (inl i) (inr (inl k)) = meets_back x y ∙ (ap (λ z. meets z x) k ∙ none x i)
    apart x y (inl i) (inr (inr k)) = absurd k
    apart x y (inr (inl i)) (inl k) = ap (λ z. meets z y) i ∙ none y k
    apart x y (inr (inl i)) (inr (inl k)) = never_itself x y (ap (λ (z : BookOrder). z.side) i ∙ ap (λ (z : BookOrder). z.side) (sym k))
    apart x y (inr (inl i)) (inr (inr k)) = absurd k
    apart x y (inr (inr i)) k = absurd i

settled_book : (fs : List Fill) (rs : List BookOrder) → IsBook rs → IsBook (all_settled fs rs)
settled_book fs rs b = record {
  distinct = all_settled_distinct fs rs b.distinct;
  uncrossed = λ x y i k. came_apart rs x y b.uncrossed (all_settled_in fs rs x (in_from (all_settled fs rs) x i)) (all_settled_in fs rs y (in_from (all_settled fs rs) y k));
}

none_left : (o : BookOrder) (left : ℕ) → left ≡ 0 → with_left o left ≡ []
none_left o left e = if_true (left == 0) [] (record o { quantity = left } ∷ []) (eq_true left 0 e)

some_left : (o : BookOrder) (left : ℕ) → (left ≡ 0 → ⊥) → with_left o left ≡ record o { quantity = left } ∷ []
some_left o left f = if_false (left == 0) [] (record o { quantity = left } ∷ []) (eq_false left 0 f)

none_of : (left : ℕ) (b : Option BookOrder) → (left ≡ 0 → ⊥) → (left ≡ 0) ⊎ (b ≡ None) → b ≡ None
none_of left b some (inl none) = absurd (some none)
none_of left b some (inr h) = h

entered_by : (o : BookOrder) (rs : List BookOrder) (fs : List Fill) (left : ℕ) → IsBook rs → order_with o.cl_id rs ≡ None → (left ≡ 0) ⊎ (best o (all_settled fs rs) ≡ None)
    → (left ≡ 0) ⊎ (left ≡ 0 → ⊥) → IsBook (all_settled fs rs ++ with_left o left)
entered_by o rs fs left b fresh done (inl none) =
    subst (λ l. IsBook l) (sym (ap (λ l. all_settled fs rs ++ l) (none_left o left none) ∙ append-nil (all_settled fs rs))) (settled_book fs rs b)
entered_by o rs fs left b fresh done (inr some) =
    let h : best o (all_settled fs rs) ≡ None = none_of left (best o (all_settled fs rs)) some done in
    subst (λ l. IsBook (all_settled fs rs ++ l)) (sym (some_left o left some))
    (push_book rs (all_settled fs rs) (record o { quantity = left }) b (all_settled_distinct fs rs b.distinct)
    (λ x i. all_settled_in fs rs x i) fresh (λ x i. none_met o (all_settled fs rs) h x i))

pub entered_book : (o : BookOrder) (rs : List BookOrder) → IsBook rs → order_with o.cl_id rs ≡ None → IsBook (entered o (fills_of o rs) rs)
entered_book o rs b fresh =
    entered_by o rs (fills_of o rs) (left_of o.quantity (fills_of o rs)) b fresh (rounds_suffice (length rs) o o.quantity rs b.distinct (omega arith))
    (either_id (left_of o.quantity (fills_of o rs)) 0)

pub without_book : (c : ℕ) (rs : List BookOrder) → IsBook rs → IsBook (without c rs)
without_book c rs b = record {
  distinct = without_distinct c rs b.distinct;
  uncrossed = λ x y i k. b.uncrossed x y (contains_from rs x (without_in c rs x (in_from (without c rs) x i))) (contains_from rs y (without_in c rs y (in_from (without c rs) y k)));
}

-- ---- an order is admitted only where none rests under its identifier

on_side_id : (new : NewOrder) (o : BookOrder) (s : Option Side) → on_side new s ≡ Ok o → o.cl_id ≡ new.cl_id
on_side_id new o None h = absurd (let e : Err code.Side ≡ Ok o = h in cc)
on_side_id new o (Some s) h =
    let e : Ok (record { cl_id = new.cl_id; side = s; symbol = new.symbol; quantity = new.quantity; price = new.price }) ≡ Ok o = h in
    let is : record { cl_id = new.cl_id; side = s; symbol = new.symbol; quantity = new.quantity; price = new.price } ≡ o = cc in
    ap (λ (z : BookOrder). z.cl_id) (sym is)

pub accepted_is_new : AcceptedIsNew
accepted_is_new rs new o h = by_refusal (refusal_of new) h
  where
    by_found : (f : Option BookOrder) → order_with new.cl_id rs ≡ f → (if is_some f then Err code.Duplicate else on_side new new.side) ≡ Ok o → order_with o.cl_id rs ≡ None
    by_found (Some x) is h = absurd (let e : Err code.Duplicate ≡ Ok o = h in cc)
    by_found None is h = ap (λ c. order_with c rs) (on_side_id new o new.side h) ∙ is

    by_refusal : (w : Option RejectCode) → unless_refused w (if is_some (order_with new.cl_id rs) then Err code.Duplicate else on_side new new.side) ≡ Ok o → order_with o.cl_id rs ≡ None
    by_refusal (Some why) h = absurd (let e : Err why ≡ Ok o = h in cc)
    by_refusal None h = by_found (order_with new.cl_id rs) refl h

with_book : (rs : List BookOrder) (r : Result BookOrder RejectCode) → IsBook rs → ((o : BookOrder) → r ≡ Ok o → order_with o.cl_id rs ≡ None) → IsBook (book_with rs r)
with_book rs (Err why) b fresh = b
with_book rs (Ok o) b fresh = entered_book o rs b (fresh o refl)

pub after_book : (rs : List BookOrder) (o : Option Order) → IsBook rs → IsBook (book_after rs o)
after_book rs None b = b
after_book rs (Some (New o)) b = with_book rs (admitted rs o) b (λ x h. accepted_is_new rs o x h)
after_book rs (Some (Cancel cl_id orig)) b = without_book orig rs b

behind_book : (rs : List BookOrder) (os : List (Option Order)) → IsBook rs → IsBook (book_behind rs os)
behind_book rs [] b = b
behind_book rs (o ∷ os) b = behind_book (book_after rs o) os (after_book rs o b)

pub empty_book : IsBook []
empty_book = record { distinct = tt; uncrossed = λ x y i k. absurd (in_from [] x i) }

pub book_stays_uncrossed : BookStaysUncrossed
book_stays_uncrossed os = behind_book [] os empty_book

-- whatever the answer was
pub stays_book : {T E : Type 0} (r : Result T E) (rs new : List BookOrder) (o : Option Order) → IsBook rs → OnOk r (new ≡ book_after rs o) → OnErr r (new ≡ rs) → IsBook new
stays_book (Ok x) rs new o b next same = subst (λ l. IsBook l) (sym next) (after_book rs o b)
stays_book (Err x) rs new o b next same = subst (λ l. IsBook l) (sym same) b
