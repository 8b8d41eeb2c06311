-- To go along the orders that may be met, the best first, is to meet the best one again and again.
use Rattle.std.proofs.Common.{◌≡◌, ℕ, zero, suc, ◌-◌, ◌<◌, ◌≤◌, min, ◌==◌, Bool, true, false, cond, int_lt, ℤ, if◌then◌else◌, ◌⊎◌, inl, inr, List, [], ◌∷◌, ◌++◌, length, Option, Some, None, option_map, refl, sym, ap, subst, ◌∙◌, arith, nat_cmp, is_eq}
use Rattle.std.specs.Map.{values_of}
use Rattle.order_desk.specs.declared.order.Side.{Side}
use Rattle.order_desk.specs.declared.order.Side.TheVariants.{Buy, Sell}
use Rattle.order_book.specs.declared.entries.BookOrder.{BookOrder}
use Rattle.order_book.specs.declared.entries.Fill.{Fill}
use Rattle.order_book.specs.Book.{meets, is_better, beats, best, with_left, settled, fill_of, next_fill, in_front, fills}
use Rattle.order_book.specs.Index.{walked}
use Rattle.order_book.proofs.Lookups.{Has, Ascending, Single, at_same, at_other, both, not_true, has_length, cut, cut_has, has_cut, cut_ascending, cut_single, cut_length}
use Rattle.order_book.proofs.Best.{Goes, if_true, if_false, best_is, best_none}

-- ---- tests

pub eq_true : (a b : ℕ) → a ≡ b → (a == b) ≡ true
eq_true a b e = grind arith

pub eq_from : (a b : ℕ) → (a == b) ≡ true → a ≡ b
eq_from a b e = grind arith

pub eq_false : (a b : ℕ) → (a ≡ b → ⊥) → (a == b) ≡ false
eq_false a b f = not_true (a == b) (λ t. f (eq_from a b t))

int_lt_self : (x : ℤ) → int_lt x x ≡ false
int_lt_self x = grind arith

better_self : (side : Side) (x : ℤ) → is_better side x x ≡ false
better_self Buy x = int_lt_self x
better_self Sell x = int_lt_self x

-- ---- what is settled

pub settled_here : (f : Fill) (r : BookOrder) (rs : List BookOrder) → r.cl_id ≡ f.cl_id → r.quantity - f.quantity ≡ 0 → settled f (r ∷ rs) ≡ rs
settled_here f r rs same none =
    if_true (r.cl_id == f.cl_id) (with_left r (r.quantity - f.quantity) ++ rs) (r ∷ settled f rs) (eq_true r.cl_id f.cl_id same)
    ∙ ap (λ n. with_left r n ++ rs) none

pub settled_later : (f : Fill) (r : BookOrder) (rs : List BookOrder) → (r.cl_id ≡ f.cl_id → ⊥) → settled f (r ∷ rs) ≡ r ∷ settled f rs
settled_later f r rs apart =
    if_false (r.cl_id == f.cl_id) (with_left r (r.quantity - f.quantity) ++ rs) (r ∷ settled f rs) (eq_false r.cl_id f.cl_id apart)

pub cond_true : {A : Type 0} (t : Bool) (x y : A) → t ≡ true → cond t x y ≡ x
cond_true true x y e = refl
cond_true false x y e = absurd cc

pub cond_false : {A : Type 0} (t : Bool) (x y : A) → t ≡ false → cond t x y ≡ y
cond_false false x y e = refl
cond_false true x y e = absurd cc

-- an order of which nothing is left is taken out
pub settled_cut : (a : ℕ) (es : List (ℕ × BookOrder)) (w : BookOrder) (f : Fill) → Ascending es → Single es → Has es a w → w.cl_id ≡ f.cl_id → w.quantity - f.quantity ≡ 0
    → settled f (values_of es) ≡ values_of (cut a es)
settled_cut a [] w f up single h id none = absurd h
settled_cut a (e ∷ es) w f up single (inl h) id none =
    let same : e.1.cl_id ≡ f.cl_id = ap (λ (r : BookOrder). r.cl_id) (sym h.1) ∙ id in
    let gone : e.1.quantity - f.quantity ≡ 0 = ap (λ (r : BookOrder). r.quantity - f.quantity) (sym h.1) ∙ none in
    settled_here f e.1 (values_of es) same gone ∙ ap (λ l. values_of l) (sym (cond_true (is_eq (nat_cmp a e.0)) es (e ∷ cut a es) (at_same a e.0 h.0)))
settled_cut a (e ∷ es) w f up single (inr h) id none =
    let lt : e.0 < a = up.0 a w h in
    let apart : e.1.cl_id ≡ f.cl_id → ⊥ = λ same. let is : e.0 ≡ a = single e.0 a e.1 w (inl (refl, refl)) (inr h) (same ∙ sym id) in omega (arith, lt, is) in
    let other : a ≡ e.0 → ⊥ = λ is. let s : a ≡ e.0 = is in omega (arith, lt, s) in
    settled_later f e.1 (values_of es) apart
    ∙ (ap (λ l. e.1 ∷ l) (settled_cut a es w f up.1 (λ b d r q k l same. single b d r q (inr k) (inr l) same) h id none)
    ∙ ap (λ l. values_of l) (sym (cond_false (is_eq (nat_cmp a e.0)) es (e ∷ cut a es) (at_other a e.0 other))))

-- ---- rounds

no_fill : (o : BookOrder) (left : ℕ) (t : Bool) (b : Option BookOrder) → (t ≡ true) ⊎ (b ≡ None) → (if t then None else option_map (fill_of left) b) ≡ None
no_fill o left true b e = refl
no_fill o left false b (inl e) = absurd cc
no_fill o left false b (inr e) = ap (λ c. option_map (fill_of left) c) e

stop_here : (n : ℕ) (o : BookOrder) (left : ℕ) (rs : List BookOrder) → next_fill o left rs ≡ None → fills n o left rs ≡ []
stop_here zero o left rs h = refl
stop_here (suc n) o left rs h = ap (λ c. in_front c (λ f. fills n o (left - f.quantity) (settled f rs))) h

pub nothing_met : (n : ℕ) (o : BookOrder) (left : ℕ) (rs : List BookOrder) → best o rs ≡ None → fills n o left rs ≡ []
nothing_met n o left rs h = stop_here n o left rs (no_fill o left (left == 0) (best o rs) (inr h))

pub nothing_left : (n : ℕ) (o : BookOrder) (rs : List BookOrder) → fills n o 0 rs ≡ []
nothing_left n o rs = stop_here n o 0 rs (no_fill o 0 (0 == 0) (best o rs) (inl (eq_true 0 0 refl)))

pub one_met : (n : ℕ) (o : BookOrder) (left : ℕ) (rs : List BookOrder) (r : BookOrder) → (left ≡ 0 → ⊥) → best o rs ≡ Some r
    → fills (suc n) o left rs ≡ fill_of left r ∷ fills n o (left - min left r.quantity) (settled (fill_of left r) rs)
one_met n o left rs r some is =
    ap (λ c. in_front c (λ f. fills n o (left - f.quantity) (settled f rs)))
    (if_false (left == 0) None (option_map (fill_of left) (best o rs)) (eq_false left 0 some) ∙ ap (λ b. option_map (fill_of left) b) is)

pub walked_none : (ws : List (ℕ × BookOrder)) → walked 0 ws ≡ []
walked_none [] = refl
walked_none (w ∷ ws) = if_true (0 == 0) [] (fill_of 0 w.1 ∷ walked (0 - w.1.quantity) ws) (eq_true 0 0 refl)

-- ---- orders in turn

abbrev pub InTurn : List (ℕ × BookOrder) → Type 0
InTurn [] = Unit {0}
InTurn (w ∷ ws) = ((b : ℕ) (x : BookOrder) → Has ws b x → Goes w.0 w.1 b x × (b ≡ w.0 → ⊥)) × InTurn ws

-- ws are those of es that o may meet, in the order in which it meets them
pub record Queued (o : BookOrder) (es ws : List (ℕ × BookOrder)) : Type 0 where
  pub sound : (a : ℕ) (r : BookOrder) → Has ws a r → Has es a r × (meets o r ≡ true)
  pub whole : (a : ℕ) (r : BookOrder) → Has es a r → meets o r ≡ true → Has ws a r
  pub turns : InTurn ws

same_goes : (a : ℕ) (w : BookOrder) (b : ℕ) (x : BookOrder) → b ≡ a → x ≡ w → Goes a w b x
same_goes a w b x at is = record {
  not_beaten = subst (λ z. beats z w ≡ false) (sym is) (better_self w.side w.price);
  beats_earlier = λ lt. let l : b < a = lt in absurd (omega (arith, l, at));
}

goes_first : (w : ℕ × BookOrder) (ws : List (ℕ × BookOrder)) (b : ℕ) (x : BookOrder) → InTurn (w ∷ ws) → Has (w ∷ ws) b x → Goes w.0 w.1 b x
goes_first w ws b x turn (inl h) = same_goes w.0 w.1 b x h.0 h.1
goes_first w ws b x turn (inr h) = (turn.0 b x h).0

not_first : (w : ℕ × BookOrder) (ws : List (ℕ × BookOrder)) (b : ℕ) (x : BookOrder) → (b ≡ w.0 → ⊥) → Has (w ∷ ws) b x → Has ws b x
not_first w ws b x apart (inl h) = absurd (apart h.0)
not_first w ws b x apart (inr h) = h

queued_later : (o : BookOrder) (es : List (ℕ × BookOrder)) (w : ℕ × BookOrder) (ws : List (ℕ × BookOrder)) → Ascending es → Queued o es (w ∷ ws) → Queued o (cut w.0 es) ws
queued_later o es w ws up q = record {
  sound = λ a r h. let s = q.sound a r (inr h) in (has_cut w.0 es a r (q.turns.0 a r h).1 s.0, s.1);
  whole = λ a r h m. let k = cut_has w.0 es a r up h in not_first w ws a r k.1 (q.whole a r k.0 m);
  turns = q.turns.1;
}

-- what the rounds behind the first give, as what is left is none or some
go_on : (n : ℕ) (o : BookOrder) (left : ℕ) (w : BookOrder) (rs : List BookOrder) (ws : List (ℕ × BookOrder)) (d : ℕ) → d ≡ left - min left w.quantity
    → (w.quantity - min left w.quantity ≡ 0 → fills n o (left - min left w.quantity) rs ≡ walked (left - min left w.quantity) ws)
    → fills n o (left - min left w.quantity) rs ≡ walked (left - min left w.quantity) ws
go_on n o left w rs ws zero is later =
    ap (λ k. fills n o k rs) (sym is) ∙ (nothing_left n o rs ∙ (sym (walked_none ws) ∙ ap (λ k. walked k ws) is))
go_on n o left w rs ws (suc d) is later = later (omega (arith, is))

no_rounds : (es : List (ℕ × BookOrder)) (a : ℕ) (r : BookOrder) → length es ≤ zero → Has es a r → ⊥
no_rounds es a r few h = let some : 0 < length es = has_length es a r h in omega (arith, few, some)

abbrev Walks : ℕ → BookOrder → ℕ → List (ℕ × BookOrder) → List (ℕ × BookOrder) → Type 0
Walks n o left es ws = fills n o left (values_of es) ≡ walked left ws

walk_step : (n : ℕ) (o : BookOrder) (left : ℕ) (es : List (ℕ × BookOrder)) (w : ℕ × BookOrder) (ws : List (ℕ × BookOrder)) → best o (values_of es) ≡ Some w.1
    → fills n o (left - min left w.1.quantity) (settled (fill_of left w.1) (values_of es)) ≡ walked (left - min left w.1.quantity) ws
    → (t : Bool) → (left == 0) ≡ t → fills (suc n) o left (values_of es) ≡ (if t then [] else fill_of left w.1 ∷ walked (left - w.1.quantity) ws)
walk_step n o left es w ws is later true t =
    let none : left ≡ 0 = eq_from left 0 t in
    ap (λ k. fills (suc n) o k (values_of es)) none ∙ nothing_left (suc n) o (values_of es)
walk_step n o left es w ws is later false t =
    let less : left - min left w.1.quantity ≡ left - w.1.quantity = omega arith in
    one_met n o left (values_of es) w.1 (λ none. both (left == 0) (eq_true left 0 none) t) is
    ∙ (ap (λ l. fill_of left w.1 ∷ l) later ∙ ap (λ k. fill_of left w.1 ∷ walked k ws) less)

pub walk_is : (ws : List (ℕ × BookOrder)) (n : ℕ) (o : BookOrder) (left : ℕ) (es : List (ℕ × BookOrder)) → Ascending es → Single es → length es ≤ n → Queued o es ws
    → Walks n o left es ws
walk_is [] n o left es up single few q = nothing_met n o left (values_of es) (best_none es o (λ b x h m. q.whole b x h m))
walk_is (w ∷ ws) zero o left es up single few q = absurd (no_rounds es w.0 w.1 few (q.sound w.0 w.1 (inl (refl, refl))).0)
walk_is (w ∷ ws) (suc n) o left es up single few q =
    let first = q.sound w.0 w.1 (inl (refl, refl)) in
    let is : best o (values_of es) ≡ Some w.1 = best_is es o w.0 w.1 up first.0 first.1 (λ b x h m. goes_first w ws b x q.turns (q.whole b x h m)) in
    let one : suc (length (cut w.0 es)) ≡ length es = cut_length w.0 es w.1 first.0 in
    let less : length (cut w.0 es) ≤ n = omega (arith, few, one) in
    let later = λ (gone : w.1.quantity - min left w.1.quantity ≡ 0).
    ap (λ l. fills n o (left - min left w.1.quantity) l) (settled_cut w.0 es w.1 (fill_of left w.1) up single first.0 refl gone)
    ∙ walk_is ws n o (left - min left w.1.quantity) (cut w.0 es) (cut_ascending w.0 es up) (cut_single w.0 es up single) less (queued_later o es w ws up q) in
    walk_step n o left es w ws is (go_on n o left w.1 (settled (fill_of left w.1) (values_of es)) ws (left - min left w.1.quantity) refl later) (left == 0) refl
