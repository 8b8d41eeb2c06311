-- The best order among entries, by what is said of it and each other.
use Rattle.std.proofs.Common.{◌≡◌, ℕ, ◌<◌, Bool, true, false, if◌then◌else◌, inl, inr, List, [], ◌∷◌, Option, Some, None, refl, sym, ap, subst, ◌∙◌}
use Rattle.std.specs.Map.{values_of}
use Rattle.order_book.specs.declared.entries.BookOrder.{BookOrder}
use Rattle.order_book.specs.Book.{meets, beats, better_of, best}
use Rattle.order_book.proofs.Lookups.{Has, Ascending}

-- w, which came under a, goes before x, which came under b
pub record Goes (a : ℕ) (w : BookOrder) (b : ℕ) (x : BookOrder) : Type 0 where
  pub not_beaten : beats x w ≡ false
  pub beats_earlier : b < a → beats w x ≡ true

-- y is among the entries, and may be met
pub record Found (es : List (ℕ × BookOrder)) (o y : BookOrder) : Type 0 where
  pub at : ℕ
  pub has : Has es at y
  pub may : meets o y ≡ true

pub if_true : {A : Type 0} (t : Bool) (x y : A) → t ≡ true → (if t then x else y) ≡ x
if_true true x y e = refl
if_true false x y e = absurd cc

pub if_false : {A : Type 0} (t : Bool) (x y : A) → t ≡ false → (if t then x else y) ≡ y
if_false false x y e = refl
if_false true x y e = absurd cc

here : (e : ℕ × BookOrder) (es : List (ℕ × BookOrder)) (o y : BookOrder) → meets o e.1 ≡ true → y ≡ e.1 → Found (e ∷ es) o y
here e es o y t is = record { at = e.0; has = inl (refl, is); may = ap (λ z. meets o z) is ∙ t }

there : (e : ℕ × BookOrder) (es : List (ℕ × BookOrder)) (o x y : BookOrder) → Found es o x → x ≡ y → Found (e ∷ es) o y
there e es o x y f is = subst (λ z. Found (e ∷ es) o z) is (record { at = f.at; has = inr f.has; may = f.may })

picked : (e : ℕ × BookOrder) (es : List (ℕ × BookOrder)) (o x y : BookOrder) → Found es o x → meets o e.1 ≡ true
    → (b : Bool) → Some (if b then x else e.1) ≡ Some y → Found (e ∷ es) o y
picked e es o x y f t true h = there e es o x y f (let k : Some x ≡ Some y = h in cc)
picked e es o x y f t false h = here e es o y t (let k : Some e.1 ≡ Some y = h in cc)

found_step : (e : ℕ × BookOrder) (es : List (ℕ × BookOrder)) (o y : BookOrder) (rest : Option BookOrder) → ((x : BookOrder) → rest ≡ Some x → Found es o x)
    → (m : Bool) → meets o e.1 ≡ m → (if m then Some (better_of e.1 rest) else rest) ≡ Some y → Found (e ∷ es) o y
found_step e es o y None ih true t h = here e es o y t (let k : Some e.1 ≡ Some y = h in cc)
found_step e es o y (Some x) ih true t h = picked e es o x y (ih x refl) t (beats x e.1) h
found_step e es o y rest ih false t h = there e es o y y (ih y h) refl

pub best_found : (es : List (ℕ × BookOrder)) (o y : BookOrder) → best o (values_of es) ≡ Some y → Found es o y
best_found [] o y h = cc
best_found (e ∷ es) o y h = found_step e es o y (best o (values_of es)) (λ x k. best_found es o x k) (meets o e.1) refl h

stays : (r : BookOrder) (rest : Option BookOrder) → ((x : BookOrder) → rest ≡ Some x → beats x r ≡ false) → better_of r rest ≡ r
stays r None f = refl
stays r (Some x) f = if_false (beats x r) x r (f x refl)

passed : (r w : BookOrder) (rest : Option BookOrder) → rest ≡ Some w → (m : Bool) → (m ≡ true → beats w r ≡ true)
    → (if m then Some (better_of r rest) else rest) ≡ Some w
passed r w rest is true f = ap (λ z. Some (better_of r z)) is ∙ ap Some (if_true (beats w r) w r (f refl))
passed r w rest is false f = is

pub best_is : (es : List (ℕ × BookOrder)) (o : BookOrder) (a : ℕ) (w : BookOrder) → Ascending es → Has es a w → meets o w ≡ true
    → ((b : ℕ) (x : BookOrder) → Has es b x → meets o x ≡ true → Goes a w b x) → best o (values_of es) ≡ Some w
best_is [] o a w up h m goes = absurd h
best_is (e ∷ es) o a w up (inl h) m goes =
    let met : meets o e.1 ≡ true = ap (λ z. meets o z) (sym h.1) ∙ m in
    let kept : better_of e.1 (best o (values_of es)) ≡ e.1 =
    stays e.1 (best o (values_of es)) (λ x k. let f = best_found es o x k in ap (λ z. beats x z) (sym h.1) ∙ (goes f.at x (inr f.has) f.may).not_beaten) in
    if_true (meets o e.1) (Some (better_of e.1 (best o (values_of es)))) (best o (values_of es)) met ∙ ap Some (kept ∙ sym h.1)
best_is (e ∷ es) o a w up (inr h) m goes =
    let later : best o (values_of es) ≡ Some w = best_is es o a w up.1 h m (λ b x k t. goes b x (inr k) t) in
    passed e.1 w (best o (values_of es)) later (meets o e.1) (λ t. (goes e.0 e.1 (inl (refl, refl)) t).beats_earlier (up.0 a w h))

unmet : (r : BookOrder) (rest : Option BookOrder) → rest ≡ None → (m : Bool) → (m ≡ true → ⊥) → (if m then Some (better_of r rest) else rest) ≡ None
unmet r rest is true f = absurd (f refl)
unmet r rest is false f = is

pub best_none : (es : List (ℕ × BookOrder)) (o : BookOrder) → ((b : ℕ) (x : BookOrder) → Has es b x → meets o x ≡ true → ⊥) → best o (values_of es) ≡ None
best_none [] o none = refl
best_none (e ∷ es) o none =
    unmet e.1 (best o (values_of es)) (best_none es o (λ b x h. none b x (inr h))) (meets o e.1) (λ t. none e.0 e.1 (inl (refl, refl)) t)
