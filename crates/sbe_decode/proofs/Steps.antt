-- Reading a list part by part, and walking over it.
use Rattle.std.proofs.Common.{◌≡◌, ℕ, Ok, Err, List, refl, ap, sym, ◌∙◌}
use Rattle.sbe_grammar.specs.declared.fault.DecodeFault.{DecodeFault}
use Rattle.sbe_grammar.specs.Reading.{Read, next}
use Rattle.sbe_decode.specs.declared.error.DecodeError.{DecodeError}
use Rattle.sbe_decode.specs.declared.error.DecodeError.TheVariants.{Fault, Memory}
use Rattle.sbe_decode.specs.Answers.{Fails}
use Rattle.sbe_decode.specs.Walks.{along, behind}

along_twice : {A : Type 0} (f g h : A → A) → ((x : A) → f (h x) ≡ g x) → (r : Read A) → along g r ≡ along f (next r (λ x rest. Ok (h x, rest)))
along_twice f g h same (Ok x) = ap (λ y. Ok (y, x.1)) (sym (same x.0))
along_twice f g h same (Err e) = refl

-- one part more is read: it stands behind the parts before it, in front of those that are left
pub along_step : {A B : Type 0} (f g : A → A) (cons : B → A → A) (read : List ℕ → Read A) (r : Read B) (v : B) (after : List ℕ) → r ≡ Ok (v, after) → ((xs : A) → f (cons v xs) ≡ g xs) → along g (read after) ≡ along f (next r (λ x rest. next (read rest) (λ xs end. Ok (cons x xs, end))))
along_step f g cons read r v after e same =
    along_twice f g (cons v) same (read after)
    ∙ ap (λ q. along f (next q (λ x rest. next (read rest) (λ xs end. Ok (cons x xs, end))))) (sym e)

-- the fault of a part is the fault of the whole
pub along_fails : {A B : Type 0} (f : A → A) (r : Read B) (more : B → List ℕ → Read A) (e : DecodeError) (whole : Read A) → along f (next r more) ≡ whole → Fails e r → Fails e whole
along_fails f r more (Fault d) whole inv h = sym inv ∙ ap (λ q. along f (next q more)) h
along_fails f r more Memory whole inv h = tt

behind_same : {A B : Type 0} (h : A → B) (r : Read A) → behind (next r (λ x rest. Ok (h x, rest))) ≡ behind r
behind_same h (Ok x) = refl
behind_same h (Err e) = refl

-- a walk over one part more
pub behind_step : {A B : Type 0} (cons : B → A → A) (read : List ℕ → Read A) (r : Read B) (after : List ℕ) → behind r ≡ Ok after → behind (next r (λ x rest. next (read rest) (λ xs end. Ok (cons x xs, end)))) ≡ behind (read after)
behind_step cons read (Ok x) after e =
    let same : x.1 ≡ after = cc in
    behind_same (cons x.0) (read x.1) ∙ ap (λ left. behind (read left)) same
behind_step cons read (Err d) after e = absurd (cc)

pub behind_fails : {A B : Type 0} (r : Read B) (more : B → List ℕ → Read A) (d : DecodeFault) → behind r ≡ Err d → behind (next r more) ≡ Err d
behind_fails (Ok x) more d e = absurd (cc)
behind_fails (Err f) more d e = e
