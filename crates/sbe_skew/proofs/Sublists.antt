-- Lists whose elements are some of another, in its order.
use Rattle.std.proofs.Common.{◌≡◌, ◌⊎◌, inl, inr, ◌≤◌, ◌∙◌, Bool, true, false, ◌||◌, cond, filter, map, refl, sym, ap, subst, List, [], ◌∷◌, ◌++◌, length, arith}
use Rattle.std.specs.Prelude.{⊤}
use Rattle.std.specs.List.{list_any}
use Rattle.std.proofs.lemmas.Bool.{or_parts}
use Rattle.sbe_schema.specs.Faults.{any_pair}

pub or_none : (a b : Bool) → a ≡ false → b ≡ false → (a || b) ≡ false
or_none a b p q = λ i. p i || q i

module _ {A : Type 0} where
  abbrev pub Sub : List A → List A → Type 0
  Sub [] ys = ⊤
  Sub (x ∷ xs) [] = ⊥
  Sub (x ∷ xs) (y ∷ ys) = ((x ≡ y) × Sub xs ys) ⊎ Sub (x ∷ xs) ys

  pub sub_skip : (y : A) (xs ys : List A) → Sub xs ys → Sub xs (y ∷ ys)
  sub_skip y [] ys s = tt
  sub_skip y (x ∷ xs) ys s = inr s

  pub sub_behind : (zs xs ys : List A) → Sub xs ys → Sub xs (zs ++ ys)
  sub_behind [] xs ys s = s
  sub_behind (z ∷ zs) xs ys s = sub_skip z xs (zs ++ ys) (sub_behind zs xs ys s)

  pub sub_append : (xs ys us vs : List A) → Sub xs ys → Sub us vs → Sub (xs ++ us) (ys ++ vs)
  sub_append [] ys us vs s t = sub_behind ys us vs t
  sub_append (x ∷ xs) [] us vs s t = absurd s
  sub_append (x ∷ xs) (y ∷ ys) us vs (inl e) t = inl (e.0, sub_append xs ys us vs e.1 t)
  sub_append (x ∷ xs) (y ∷ ys) us vs (inr s) t = inr (sub_append (x ∷ xs) ys us vs s t)

  pub any_sub : (p : A → Bool) (xs ys : List A) → Sub xs ys → list_any p ys ≡ false → list_any p xs ≡ false
  any_sub p [] ys s h = refl
  any_sub p (x ∷ xs) [] s h = absurd s
  any_sub p (x ∷ xs) (y ∷ ys) (inl e) h =
      let o = or_parts (p y) (list_any p ys) h in or_none (p x) (list_any p xs) (ap p e.0 ∙ o.0) (any_sub p xs ys e.1 o.1)
  any_sub p (x ∷ xs) (y ∷ ys) (inr s) h = any_sub p (x ∷ xs) ys s (or_parts (p y) (list_any p ys) h).1

  pub pairs_sub : (r : A → A → Bool) (xs ys : List A) → Sub xs ys → any_pair r ys ≡ false → any_pair r xs ≡ false
  pairs_sub r [] ys s h = refl
  pairs_sub r (x ∷ xs) [] s h = absurd s
  pairs_sub r (x ∷ xs) (y ∷ ys) (inl e) h =
      let o = or_parts (list_any (λ later. r later y) ys) (any_pair r ys) h in
      or_none (list_any (λ later. r later x) xs) (any_pair r xs) (subst (λ z. list_any (λ later. r later z) xs ≡ false) (sym e.0) (any_sub (λ later. r later y) xs ys e.1 o.0)) (pairs_sub r xs ys e.1 o.1)
  pairs_sub r (x ∷ xs) (y ∷ ys) (inr s) h = pairs_sub r (x ∷ xs) ys s (or_parts (list_any (λ later. r later y) ys) (any_pair r ys) h).1

  pub length_sub : (xs ys : List A) → Sub xs ys → length xs ≤ length ys
  length_sub [] ys s = omega arith
  length_sub (x ∷ xs) [] s = absurd s
  length_sub (x ∷ xs) (y ∷ ys) (inl e) = let h = length_sub xs ys e.1 in omega arith
  length_sub (x ∷ xs) (y ∷ ys) (inr s) = let h : length (x ∷ xs) ≤ length ys = length_sub (x ∷ xs) ys s in omega arith

  pub any_filter : (keep p q : A → Bool) → ((x : A) → keep x ≡ true → p x ≡ false → q x ≡ false) → (xs : List A) → list_any p xs ≡ false → list_any q (filter keep xs) ≡ false
  any_filter keep p q f [] h = refl
  any_filter keep p q f (x ∷ xs) h =
      let o = or_parts (p x) (list_any p xs) h in
      let rest = any_filter keep p q f xs o.1 in
      elim (keep x) as (λ b. keep x ≡ b → list_any q (cond b (x ∷ filter keep xs) (filter keep xs)) ≡ false) [
        | true ↦ λ e. or_none (q x) (list_any q (filter keep xs)) (f x e o.0) rest
        | false ↦ λ e. rest
      ] refl

module _ {A B : Type 0} where
  pub sub_map : (f : A → B) (keep : A → Bool) (xs : List A) → Sub (map f (filter keep xs)) (map f xs)
  sub_map f keep [] = tt
  sub_map f keep (x ∷ xs) =
      elim (keep x) as (λ b. Sub (map f (cond b (x ∷ filter keep xs) (filter keep xs))) (f x ∷ map f xs)) [
        | true ↦ inl (refl, sub_map f keep xs)
        | false ↦ sub_skip (f x) (map f (filter keep xs)) (map f xs) (sub_map f keep xs)
      ]

  pub any_map : (p : B → Bool) (f : A → B) (xs : List A) → list_any p (map f xs) ≡ list_any (λ x. p (f x)) xs
  any_map p f [] = refl
  any_map p f (x ∷ xs) = ap (λ b. p (f x) || b) (any_map p f xs)
