-- What is known of the places so far: whether one of them is a sibling of a path and has a name or number.
use Rattle.std.proofs.Common.{◌≡◌, Bool, true, false, ◌&&◌, ◌||◌, List, [], ◌∷◌, ◌++◌, refl, ap, ◌∙◌}
use Rattle.std.specs.List.{list_any, AllByRecursion}
use Rattle.sbe_schema.specs.declared.fault.PathStep.{PathStep}
use Rattle.sbe_schema.specs.Places.{Table, Place}

pub or_swap : (a b c : Bool) → (a || (b || c)) ≡ (b || (a || c))
or_swap true true c = refl
or_swap true false c = refl
or_swap false b c = refl

or_assoc : (a b c : Bool) → (a || (b || c)) ≡ ((a || b) || c)
or_assoc true b c = refl
or_assoc false b c = refl

or_false : (a : Bool) → (a || false) ≡ a
or_false true = refl
or_false false = refl

module _ {V : Type 0} (near : List PathStep → List PathStep → Bool) (has : Table → V → Bool) where
  -- whether a place of such a path, and a name or number, came before
  abbrev pub add : (List PathStep → V → Bool) → Place → List PathStep → V → Bool
  add s p path v = (near p.path_steps path && has p.table v) || s path v

  abbrev pub adds : (List PathStep → V → Bool) → List Place → List PathStep → V → Bool
  adds s [] = s
  adds s (p ∷ ps) = adds (add s p) ps

  pub adds-append : (s : List PathStep → V → Bool) (ps qs : List Place) → adds s (ps ++ qs) ≡ adds (adds s ps) qs
  adds-append s [] qs = refl
  adds-append s (p ∷ ps) qs = adds-append (add s p) ps qs

  pub adds-any : (s : List PathStep → V → Bool) (ps : List Place) (path : List PathStep) (v : V) → adds s ps path v ≡ (list_any (λ q. near q.path_steps path && has q.table v) ps || s path v)
  adds-any s [] path v = refl
  adds-any s (p ∷ ps) path v =
      let here = near p.path_steps path && has p.table v in
      let rest = list_any (λ (q : Place). near q.path_steps path && has q.table v) ps in
      adds-any (add s p) ps path v ∙ (or_swap rest here (s path v) ∙ or_assoc here rest (s path v))

  -- no place is near the path
  abbrev pub NoneNear : List PathStep → List Place → Type 0
  NoneNear path [] = Unit {0}
  NoneNear path (p ∷ ps) = (near p.path_steps path ≡ false) × NoneNear path ps

  pub adds-none : (s : List PathStep → V → Bool) (ps : List Place) (path : List PathStep) (v : V) → NoneNear path ps → adds s ps path v ≡ s path v
  adds-none s [] path v none = refl
  adds-none s (p ∷ ps) path v none = adds-none (add s p) ps path v none.1 ∙ ap (λ b. (b && has p.table v) || s path v) none.0

  -- what is known from the start
  pub adds-start : (ps : List Place) (path : List PathStep) (v : V) → adds (λ _ _. false) ps path v ≡ list_any (λ q. near q.path_steps path && has q.table v) ps
  adds-start ps path v = adds-any (λ _ _. false) ps path v ∙ or_false _

  module _ (Knows : Place → (V → Bool) → Type 0) where
    -- each place knows what came before it
    abbrev pub AllKnow : (List PathStep → V → Bool) → List Place → Type 0
    AllKnow s [] = Unit {0}
    AllKnow s (p ∷ ps) = Knows p (s p.path_steps) × AllKnow (add s p) ps

    pub all_know-append : (s : List PathStep → V → Bool) (ps qs : List Place) → AllKnow s ps → AllKnow (adds s ps) qs → AllKnow s (ps ++ qs)
    all_know-append s [] qs a b = b
    all_know-append s (p ∷ ps) qs a b = (a.0, all_know-append (add s p) ps qs a.1 b)

    -- at each split, a place knows what is known of the places before it
    pub knows_at : (s : List PathStep → V → Bool) (before : List Place) (p : Place) (after : List Place) → AllKnow s (before ++ p ∷ after) → Knows p (adds s before p.path_steps)
    knows_at s [] p after t = t.0
    knows_at s (q ∷ before) p after t = knows_at (add s q) before p after t.1

    -- places that have nothing to know
    pub all_know-plain : (s : List PathStep → V → Bool) (ps : List Place) → AllByRecursion (λ p. (f : V → Bool) → Knows p f) ps → AllKnow s ps
    all_know-plain s [] a = tt
    all_know-plain s (p ∷ ps) a = (a.0 (s p.path_steps), all_know-plain (add s p) ps a.1)
