-- A test along a list that carries a state, and what it comes to without one.
use Rattle.std.proofs.Common.{◌≡◌, refl, sym, ap, ◌∙◌, Bool, true, false, ◌||◌, List, [], ◌∷◌, ◌++◌, map}
use Rattle.std.specs.List.{list_any}
use Rattle.sbe_schema.specs.Faults.{any_pair, behind_one, with_earlier}

pub or_false : (a : Bool) → (a || false) ≡ a
or_false true = refl
or_false false = refl

-- (a or b) or (c or d), with the middle two changed
pub or_middle : (a b c d : Bool) → ((a || b) || (c || d)) ≡ ((a || c) || (b || d))
or_middle true b c d = refl
or_middle false true true d = refl
or_middle false true false d = refl
or_middle false false c d = refl

pub or_assoc : (a b c : Bool) → ((a || b) || c) ≡ (a || (b || c))
or_assoc true b c = refl
or_assoc false b c = refl

pub or_swap : (a b : Bool) → (a || b) ≡ (b || a)
or_swap true true = refl
or_swap true false = refl
or_swap false true = refl
or_swap false false = refl

module _ {A : Type 0} where
  pub any_none : (p : A → Bool) → ((x : A) → p x ≡ false) → (xs : List A) → list_any p xs ≡ false
  any_none p none [] = refl
  any_none p none (x ∷ xs) = λ i. none x i || any_none p none xs i

  pub any_same : (p q : A → Bool) → ((x : A) → p x ≡ q x) → (xs : List A) → list_any p xs ≡ list_any q xs
  any_same p q same [] = refl
  any_same p q same (x ∷ xs) = λ i. same x i || any_same p q same xs i

  pub any_or : (p q : A → Bool) (xs : List A) → list_any (λ x. p x || q x) xs ≡ (list_any p xs || list_any q xs)
  any_or p q [] = refl
  any_or p q (x ∷ xs) = ap (λ b. (p x || q x) || b) (any_or p q xs) ∙ or_middle (p x) (q x) (list_any p xs) (list_any q xs)

module _ {A B : Type 0} where
  pub any-map : (p : B → Bool) (f : A → B) (xs : List A) → list_any p (map f xs) ≡ list_any (λ x. p (f x)) xs
  any-map p f [] = refl
  any-map p f (x ∷ xs) = ap (λ b. p (f x) || b) (any-map p f xs)

  pub pair-map : (relation : B → B → Bool) (f : A → B) (xs : List A) → any_pair relation (map f xs) ≡ any_pair (λ y x. relation (f y) (f x)) xs
  pair-map relation f [] = refl
  pair-map relation f (x ∷ xs) = λ i. any-map (λ y. relation y (f x)) f xs i || pair-map relation f xs i

module _ {A S : Type 0} (step : S → A → S) (test : S → A → Bool) where
  -- some element passes the test in the state that those before it lead to
  abbrev pub along : S → List A → Bool
  along s [] = false
  along s (x ∷ xs) = test s x || along (step s x) xs

  abbrev pub steps : S → List A → S
  steps s [] = s
  steps s (x ∷ xs) = steps (step s x) xs

  pub along_none : ((s : S) (x : A) → test s x ≡ false) → (s : S) (xs : List A) → along s xs ≡ false
  along_none none s [] = refl
  along_none none s (x ∷ xs) = λ i. none s x i || along_none none (step s x) xs i

  pub along_any : (p : A → Bool) → ((s : S) (x : A) → test s x ≡ p x) → (s : S) (xs : List A) → along s xs ≡ list_any p xs
  along_any p same s [] = refl
  along_any p same s (x ∷ xs) = λ i. same s x i || along_any p same (step s x) xs i

  pub along_append : (s : S) (xs ys : List A) → along s (xs ++ ys) ≡ (along s xs || along (steps s xs) ys)
  along_append s [] ys = refl
  along_append s (x ∷ xs) ys = ap (λ b. test s x || b) (along_append (step s x) xs ys) ∙ sym (or_assoc (test s x) (along (step s x) xs) (along (steps (step s x) xs) ys))

  pub steps_append : (s : S) (xs ys : List A) → steps s (xs ++ ys) ≡ steps (steps s xs) ys
  steps_append s [] ys = refl
  steps_append s (x ∷ xs) ys = steps_append (step s x) xs ys

  -- a test that each element before adds a relation to
  pub along_pairs : (relation : A → A → Bool) → ((s : S) (x y : A) → test (step s x) y ≡ (relation y x || test s y)) → (s : S) (xs : List A) → along s xs ≡ (list_any (test s) xs || any_pair relation xs)
  along_pairs relation adds s [] = refl
  along_pairs relation adds s (x ∷ xs) =
      let inner = any_same (test (step s x)) (λ y. relation y x || test s y) (λ y. adds s x y) xs ∙ any_or (λ y. relation y x) (test s) xs ∙ or_swap (list_any (λ y. relation y x) xs) (list_any (test s) xs) in
      ap (λ b. test s x || b) (along_pairs relation adds (step s x) xs ∙ ap (λ b. b || any_pair relation xs) inner ∙ or_assoc (list_any (test s) xs) (list_any (λ y. relation y x) xs) (any_pair relation xs))
      ∙ sym (or_assoc (test s x) (list_any (test s) xs) (list_any (λ y. relation y x) xs || any_pair relation xs))

  -- a test of the state that those before lead to
  pub along_earlier : (s : S) (xs : List A) → along s xs ≡ list_any (λ p. test (steps s p.0) p.1) (with_earlier xs)
  along_earlier s [] = refl
  along_earlier s (x ∷ xs) =
      ap (λ b. test s x || b) (along_earlier (step s x) xs ∙ sym (any-map (λ p. test (steps s p.0) p.1) (behind_one x) (with_earlier xs)))

module _ {A S R : Type 0} (step : S → A → S) (test : S → A → Bool) (step' : R → A → R) (test' : R → A → Bool) (of : S → R) where
  -- a test that sees a part of the state
  pub along_part : ((s : S) (x : A) → of (step s x) ≡ step' (of s) x) → ((s : S) (x : A) → test s x ≡ test' (of s) x) → (s : S) (xs : List A) → along step test s xs ≡ along step' test' (of s) xs
  along_part stepped same s [] = refl
  along_part stepped same s (x ∷ xs) =
      λ i. same s x i || (along_part stepped same (step s x) xs ∙ ap (λ r. along step' test' r xs) (stepped s x)) i

module _ {A B S : Type 0} (step : S → B → S) (test : S → B → Bool) (f : A → B) where
  pub along-map : (s : S) (xs : List A) → along step test s (map f xs) ≡ along (λ r x. step r (f x)) (λ r x. test r (f x)) s xs
  along-map s [] = refl
  along-map s (x ∷ xs) = ap (λ b. test s (f x) || b) (along-map (step s (f x)) xs)
