-- Reading a list part by part.
use Rattle.std.proofs.Common.{◌≡◌, ℕ, Ok, Err, List, refl, ap, sym, ◌∙◌}
use Rattle.sbe_text.specs.declared.error.Refusal.{Refusal}
use Rattle.sbe_text.specs.declared.error.Refusal.TheVariants.{At, Memory}
use Rattle.sbe_text.specs.Read.{Read, next}
use Rattle.sbe_text.specs.Answers.{Fails}

-- what is read, changed
abbrev pub along : {A B : Type 0} → (A → B) → Read A → Read B
along f read = next read (λ x rest. Ok (f x, rest))

along_twice : {A : Type 0} (f g h : A → A) → ((x : A) → f (h x) ≡ g x) → (r : Read A) → along g r ≡ along f (next r (λ x rest. Ok (h x, rest)))
along_twice f g h same (Ok x) = ap (λ y. Ok (y, x.1)) (sym (same x.0))
along_twice f g h same (Err e) = refl

-- one part more is read: it stands behind the parts before it, in front of those that are left
pub along_step : {A B : Type 0} (f g : A → A) (cons : B → A → A) (read : List (List ℕ) → Read A) (r : Read B) (v : B) (after : List (List ℕ)) → r ≡ Ok (v, after) → ((xs : A) → f (cons v xs) ≡ g xs) → along g (read after) ≡ along f (next r (λ x rest. next (read rest) (λ xs end. Ok (cons x xs, end))))
along_step f g cons read r v after e same =
    along_twice f g (cons v) same (read after)
    ∙ ap (λ q. along f (next q (λ x rest. next (read rest) (λ xs end. Ok (cons x xs, end))))) (sym e)

-- the refusal of a part is that of the whole
pub along_fails : {A B : Type 0} (f : A → A) (r : Read B) (more : B → List (List ℕ) → Read A) (e : Refusal) (whole : Read A) → along f (next r more) ≡ whole → Fails e r → Fails e whole
along_fails f r more (At n) whole inv h = sym inv ∙ ap (λ q. along f (next q more)) h
along_fails f r more Memory whole inv h = tt

pub along_same : {A : Type 0} (f : A → A) → ((x : A) → f x ≡ x) → (r : Read A) → along f r ≡ r
along_same f same (Ok x) = ap (λ y. Ok (y, x.1)) (same x.0)
along_same f same (Err e) = refl
