-- The entries of a map from numbers to orders, as a relation between a number and its order.
use Rattle.std.proofs.Common.{◌≡◌, ℕ, suc, ◌<◌, Bool, true, false, cond, ◌⊎◌, inl, inr, List, [], ◌∷◌, length, Option, Some, refl, sym, ap, ◌∙◌, arith, nat_cmp, is_eq, Less}
use Rattle.std.specs.Cmp.{Equal-is, nat_cmp_total}
use Rattle.std.specs.List.{AllByRecursion}
use Rattle.std.specs.List.Sorted.{IsStrictlySortedBy}
use Rattle.std.specs.Map.{keys_of, lookup, remove_entry}
use Rattle.std.specs.BTreeMap.{is_at}
use Rattle.std.proofs.lemmas.Cmp.{ranked, tied_itself}
use Rattle.std.proofs.lemmas.Map.Keys.{sorted_head, sorted_tail}
use Rattle.std.proofs.lemmas.Map.Lookups.{exact_unsigned}
use Rattle.order_book.specs.declared.entries.BookOrder.{BookOrder}

abbrev pub Has : List (ℕ × BookOrder) → ℕ → BookOrder → Type 0
Has [] a r = ⊥
Has (e ∷ es) a r = ((a ≡ e.0) × (r ≡ e.1)) ⊎ Has es a r

-- the numbers rise
abbrev pub Ascending : List (ℕ × BookOrder) → Type 0
Ascending [] = Unit {0}
Ascending (e ∷ es) = ((a : ℕ) (r : BookOrder) → Has es a r → e.0 < a) × Ascending es

-- each identifier stands once
abbrev pub Single : List (ℕ × BookOrder) → Type 0
Single es = (a b : ℕ) (r q : BookOrder) → Has es a r → Has es b q → r.cl_id ≡ q.cl_id → a ≡ b

abbrev pub look : List (ℕ × BookOrder) → ℕ → Option BookOrder
look es a = lookup (is_at (nat_cmp a)) es

-- ---- tests of numbers

pub at_same : (a b : ℕ) → a ≡ b → is_eq (nat_cmp a b) ≡ true
at_same a b e = (Equal-is (nat_cmp a b)).1 (ap (λ x. nat_cmp a x) (sym e) ∙ tied_itself nat_cmp_total a)

pub same_at : (a b : ℕ) → is_eq (nat_cmp a b) ≡ true → a ≡ b
same_at a b t = exact_unsigned a b ((Equal-is (nat_cmp a b)).0 t)

pub not_true : (t : Bool) → (t ≡ true → ⊥) → t ≡ false
not_true true f = absurd (f refl)
not_true false f = refl

pub at_other : (a b : ℕ) → (a ≡ b → ⊥) → is_eq (nat_cmp a b) ≡ false
at_other a b apart = not_true (is_eq (nat_cmp a b)) (λ t. apart (same_at a b t))

pub both : (t : Bool) → t ≡ true → t ≡ false → ⊥
both t p q = let e : true ≡ false = sym p ∙ q in cc

below_from_less : (a b : ℕ) → nat_cmp a b ≡ Less → a < b
below_from_less a b e = ranked a b Less (sym e)

-- ---- order

above : (k : ℕ) (es : List (ℕ × BookOrder)) → AllByRecursion (λ y. nat_cmp k y ≡ Less) (keys_of es) → (a : ℕ) (r : BookOrder) → Has es a r → k < a
above k [] all a r h = absurd h
above k (e ∷ es) all a r (inl h) = let lt : k < e.0 = below_from_less k e.0 all.0 in omega (arith, lt, h.0)
above k (e ∷ es) all a r (inr h) = above k es all.1 a r h

pub ascending : (es : List (ℕ × BookOrder)) → IsStrictlySortedBy nat_cmp (keys_of es) → Ascending es
ascending [] s = tt
ascending (e ∷ es) s = (above e.0 es (sorted_head nat_cmp e.0 (keys_of es) s), ascending es (sorted_tail nat_cmp e.0 (keys_of es) s))

-- ---- look-ups

has_step : (e : ℕ × BookOrder) (es : List (ℕ × BookOrder)) (a : ℕ) (r : BookOrder) → (look es a ≡ Some r → Has es a r)
    → (b : Bool) → is_eq (nat_cmp a e.0) ≡ b → cond b (Some e.1) (look es a) ≡ Some r → Has (e ∷ es) a r
has_step e es a r ih true t h = inl (same_at a e.0 t, let k : Some e.1 ≡ Some r = h in cc)
has_step e es a r ih false t h = inr (ih h)

pub has_from_look : (es : List (ℕ × BookOrder)) (a : ℕ) (r : BookOrder) → look es a ≡ Some r → Has es a r
has_from_look [] a r h = cc
has_from_look (e ∷ es) a r h = has_step e es a r (has_from_look es a r) (is_eq (nat_cmp a e.0)) refl h

look_step : (e : ℕ × BookOrder) (es : List (ℕ × BookOrder)) (a : ℕ) (r : BookOrder) (b : Bool) → (b ≡ true → Some e.1 ≡ Some r) → (b ≡ false → look es a ≡ Some r)
    → cond b (Some e.1) (look es a) ≡ Some r
look_step e es a r true f g = f refl
look_step e es a r false f g = g refl

pub look_from_has : (es : List (ℕ × BookOrder)) (a : ℕ) (r : BookOrder) → Ascending es → Has es a r → look es a ≡ Some r
look_from_has [] a r up h = absurd h
look_from_has (e ∷ es) a r up (inl h) =
    look_step e es a r (is_eq (nat_cmp a e.0)) (λ t. ap Some (sym h.1)) (λ f. absurd (both (is_eq (nat_cmp a e.0)) (at_same a e.0 h.0) f))
look_from_has (e ∷ es) a r up (inr h) =
    let lt : e.0 < a = up.0 a r h in
    look_step e es a r (is_eq (nat_cmp a e.0)) (λ t. let same : a ≡ e.0 = same_at a e.0 t in absurd (omega (arith, lt, same))) (λ f. look_from_has es a r up.1 h)

pub has_length : (es : List (ℕ × BookOrder)) (a : ℕ) (r : BookOrder) → Has es a r → 0 < length es
has_length [] a r h = absurd h
has_length (e ∷ es) a r h = omega arith

-- ---- one entry taken out

abbrev pub cut : ℕ → List (ℕ × BookOrder) → List (ℕ × BookOrder)
cut a es = remove_entry (is_at (nat_cmp a)) es

cut_has_step : (a : ℕ) (e : ℕ × BookOrder) (es : List (ℕ × BookOrder)) (b : ℕ) (x : BookOrder) → Ascending (e ∷ es) → (Has (cut a es) b x → Has es b x × (b ≡ a → ⊥))
    → (t : Bool) → is_eq (nat_cmp a e.0) ≡ t → Has (cond t es (e ∷ cut a es)) b x → Has (e ∷ es) b x × (b ≡ a → ⊥)
cut_has_step a e es b x up ih true t h =
    let lt : e.0 < b = up.0 b x h in
    let is : a ≡ e.0 = same_at a e.0 t in
    (inr h, λ same. let s : b ≡ a = same in absurd (omega (arith, lt, is, s)))
cut_has_step a e es b x up ih false t (inl h) = (inl h, λ same. both (is_eq (nat_cmp a e.0)) (at_same a e.0 (sym same ∙ h.0)) t)
cut_has_step a e es b x up ih false t (inr h) = (inr (ih h).0, (ih h).1)

pub cut_has : (a : ℕ) (es : List (ℕ × BookOrder)) (b : ℕ) (x : BookOrder) → Ascending es → Has (cut a es) b x → Has es b x × (b ≡ a → ⊥)
cut_has a [] b x up h = absurd h
cut_has a (e ∷ es) b x up h = cut_has_step a e es b x up (cut_has a es b x up.1) (is_eq (nat_cmp a e.0)) refl h

has_cut_step : (a : ℕ) (e : ℕ × BookOrder) (es : List (ℕ × BookOrder)) (b : ℕ) (x : BookOrder) → (b ≡ a → ⊥) → (Has es b x → Has (cut a es) b x)
    → (t : Bool) → is_eq (nat_cmp a e.0) ≡ t → Has (e ∷ es) b x → Has (cond t es (e ∷ cut a es)) b x
has_cut_step a e es b x apart ih true t (inl h) = absurd (apart (h.0 ∙ sym (same_at a e.0 t)))
has_cut_step a e es b x apart ih true t (inr h) = h
has_cut_step a e es b x apart ih false t (inl h) = inl h
has_cut_step a e es b x apart ih false t (inr h) = inr (ih h)

pub has_cut : (a : ℕ) (es : List (ℕ × BookOrder)) (b : ℕ) (x : BookOrder) → (b ≡ a → ⊥) → Has es b x → Has (cut a es) b x
has_cut a [] b x apart h = absurd h
has_cut a (e ∷ es) b x apart h = has_cut_step a e es b x apart (has_cut a es b x apart) (is_eq (nat_cmp a e.0)) refl h

cut_up_step : (a : ℕ) (e : ℕ × BookOrder) (es : List (ℕ × BookOrder)) → Ascending (e ∷ es) → Ascending (cut a es) → (t : Bool) → Ascending (cond t es (e ∷ cut a es))
cut_up_step a e es up ih true = up.1
cut_up_step a e es up ih false = (λ b x h. up.0 b x (cut_has a es b x up.1 h).0, ih)

pub cut_ascending : (a : ℕ) (es : List (ℕ × BookOrder)) → Ascending es → Ascending (cut a es)
cut_ascending a [] up = tt
cut_ascending a (e ∷ es) up = cut_up_step a e es up (cut_ascending a es up.1) (is_eq (nat_cmp a e.0))

pub cut_single : (a : ℕ) (es : List (ℕ × BookOrder)) → Ascending es → Single es → Single (cut a es)
cut_single a es up single b d r q h k same = single b d r q (cut_has a es b r up h).0 (cut_has a es d q up k).0 same

cut_length_step : (a : ℕ) (e : ℕ × BookOrder) (es : List (ℕ × BookOrder)) (t : Bool) → (t ≡ false → suc (length (cut a es)) ≡ length es)
    → suc (length (cond t es (e ∷ cut a es))) ≡ suc (length es)
cut_length_step a e es true ih = refl
cut_length_step a e es false ih = ap suc (ih refl)

pub cut_length : (a : ℕ) (es : List (ℕ × BookOrder)) (r : BookOrder) → Has es a r → suc (length (cut a es)) ≡ length es
cut_length a [] r h = absurd h
cut_length a (e ∷ es) r (inl h) =
    cut_length_step a e es (is_eq (nat_cmp a e.0)) (λ f. absurd (both (is_eq (nat_cmp a e.0)) (at_same a e.0 h.0) f))
cut_length a (e ∷ es) r (inr h) = cut_length_step a e es (is_eq (nat_cmp a e.0)) (λ f. cut_length a es r h)
