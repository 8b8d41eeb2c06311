-- One more frame behind others: which session it belongs to, whether it comes to it, and what the answer makes of it.
use Rattle.std.proofs.Common.{◌≡◌, inl, inr, ℕ, ◌==◌, Bool, true, false, cond, List, [], ◌∷◌, ◌++◌, Option, refl, sym, ◌∙◌, ap, subst, append_assoc, append-nil, eq-eqb}
use Rattle.std.specs.Prelude.{fold}
use Rattle.std.proofs.lemmas.Bool.{ne_eqb}
use Rattle.std.proofs.lemmas.List.Sums.{fold-append}
use Rattle.sofh_frame.specs.Framing.{Frame}
use Rattle.fixp_mux.specs.Context.{says}
use Rattle.fixp_mux.specs.Parts.{named_by, named_behind, IsWellSaid, WellRouted}
use Rattle.cmd_config.specs.declared.settings.Settings.{Settings}
use Rattle.cmd_answer.specs.Answer.{Received}
use Rattle.cmd_muxanswer.specs.Input.{Carried, carried_by, carried}
use Rattle.cmd_muxanswer.specs.Answer.{Came, of_place, Ignores, Takes, AreTaken, Reach, first_reach, next_reach, reach_after}

-- ---- frames and their sessions

pub carried-append : (before : Option (List ℕ)) (xs ys : List Frame) → carried before (xs ++ ys) ≡ carried before xs ++ carried (named_behind before xs) ys
carried-append before [] ys = refl
carried-append before (f ∷ xs) ys =
    ap (λ (ks : List Carried). carried_by before (says f) f ++ ks) (carried-append (named_by before (says f)) xs ys)
    ∙ sym (append_assoc (carried_by before (says f) f) (carried (named_by before (says f)) xs) (carried (named_behind (named_by before (says f)) xs) ys))

pub carried-push : (before : Option (List ℕ)) (xs : List Frame) (f : Frame) → carried before (xs ++ f ∷ []) ≡ carried before xs ++ carried_by (named_behind before xs) (says f) f
carried-push before xs f =
    carried-append before xs (f ∷ []) ∙ ap (λ (ks : List Carried). carried before xs ++ ks) (append-nil (carried_by (named_behind before xs) (says f) f))

pub routed-append : (Known : List ℕ → Type 0) (before : Option (List ℕ)) (xs ys : List Frame) → WellRouted Known before xs → WellRouted Known (named_behind before xs) ys → WellRouted Known before (xs ++ ys)
routed-append Known before [] ys first behind = behind
routed-append Known before (f ∷ xs) ys first behind = (first.0, routed-append Known (named_by before (says f)) xs ys first.1 behind)

pub routed-push : (Known : List ℕ → Type 0) (before : Option (List ℕ)) (xs : List Frame) (f : Frame) → WellRouted Known before xs → IsWellSaid Known (named_behind before xs) (says f) → WellRouted Known before (xs ++ f ∷ [])
routed-push Known before xs f first last = routed-append Known before xs (f ∷ []) first (last, tt)

pub named-push : (before : Option (List ℕ)) (xs : List Frame) (f : Frame) → named_behind before (xs ++ f ∷ []) ≡ named_by (named_behind before xs) (says f)
named-push before [] f = refl
named-push before (g ∷ xs) f = named-push (named_by before (says g)) xs f

-- ---- frames that came to their sessions

pub of_place-append : (place : ℕ) (a b : List Came) → of_place place (a ++ b) ≡ of_place place a ++ of_place place b
of_place-append place [] b = refl
of_place-append place (c ∷ a) b =
    elim (c.place == place) as (λ t. cond t (c.received ∷ of_place place (a ++ b)) (of_place place (a ++ b)) ≡ cond t (c.received ∷ of_place place a) (of_place place a) ++ of_place place b) [
      | true ↦ ap (λ (rs : List Received). c.received ∷ rs) (of_place-append place a b)
      | false ↦ of_place-append place a b
    ]

pub of_place-own : (place : ℕ) (a : List Came) (c : Came) → c.place ≡ place → of_place place (a ++ c ∷ []) ≡ of_place place a ++ c.received ∷ []
of_place-own place a c own =
    of_place-append place a (c ∷ []) ∙ ap (λ (t : Bool). of_place place a ++ cond t (c.received ∷ []) []) (eq-eqb c.place place own)

pub of_place-other : (place : ℕ) (a : List Came) (c : Came) → (c.place ≡ place → ⊥) → of_place place (a ++ c ∷ []) ≡ of_place place a
of_place-other place a c other =
    of_place-append place a (c ∷ []) ∙ ap (λ (t : Bool). of_place place a ++ cond t (c.received ∷ []) []) (ne_eqb c.place place other) ∙ append-nil (of_place place a)

module _ (sessions : List Settings) where
  regrouped : (earlier : List Came) (d : Came) (came : List Came) (P : List Came → Type 0) → P (earlier ++ d ∷ came) → P ((earlier ++ d ∷ []) ++ came)
  regrouped earlier d came P p = subst P (sym (append_assoc earlier (d ∷ []) came)) p

  -- one more frame comes to its session
  pub taken-push : (earlier : List Came) (ks : List Carried) (came : List Came) (k : Carried) (c : Came) → AreTaken sessions earlier ks came → Takes sessions (earlier ++ came) k c
      → AreTaken sessions earlier (ks ++ k ∷ []) (came ++ c ∷ [])
  taken-push earlier [] came k c none takes =
      let at : Takes sessions earlier k c = subst (λ (e : List Came). Takes sessions e k c) (ap (λ (l : List Came). earlier ++ l) none ∙ append-nil earlier) takes in
      subst (λ (l : List Came). AreTaken sessions earlier (k ∷ []) (l ++ c ∷ [])) (sym none) (inr (at, refl))
  taken-push earlier (j ∷ ks) [] k c taken takes = inl (taken.0, taken-push earlier ks [] k c taken.1 takes)
  taken-push earlier (j ∷ ks) (d ∷ came) k c (inl taken) takes = inl (taken.0, taken-push earlier ks (d ∷ came) k c taken.1 takes)
  taken-push earlier (j ∷ ks) (d ∷ came) k c (inr taken) takes =
      inr (taken.0, taken-push (earlier ++ d ∷ []) ks came k c taken.1 (regrouped earlier d came (λ (e : List Came). Takes sessions e k c) takes))

  -- one more frame is ignored
  pub taken-ignored : (earlier : List Came) (ks : List Carried) (came : List Came) (k : Carried) → AreTaken sessions earlier ks came → Ignores sessions (earlier ++ came) k
      → AreTaken sessions earlier (ks ++ k ∷ []) came
  taken-ignored earlier [] came k none ignores =
      let at : Ignores sessions earlier k = subst (λ (e : List Came). Ignores sessions e k) (ap (λ (l : List Came). earlier ++ l) none ∙ append-nil earlier) ignores in
      subst (AreTaken sessions earlier (k ∷ [])) (sym none) (at, refl)
  taken-ignored earlier (j ∷ ks) [] k taken ignores = (taken.0, taken-ignored earlier ks [] k taken.1 ignores)
  taken-ignored earlier (j ∷ ks) (d ∷ came) k (inl taken) ignores = inl (taken.0, taken-ignored earlier ks (d ∷ came) k taken.1 ignores)
  taken-ignored earlier (j ∷ ks) (d ∷ came) k (inr taken) ignores =
      inr (taken.0, taken-ignored (earlier ++ d ∷ []) ks came k taken.1 (regrouped earlier d came (λ (e : List Came). Ignores sessions e k) ignores))

-- ---- how far the answer comes

pub fold-came : (r : Reach) (came : List Came) → (fold next_reach r came).came ≡ r.came ++ came
fold-came r [] = sym (append-nil r.came)
fold-came r (c ∷ came) = fold-came (next_reach r c) came ∙ append_assoc r.came (c ∷ []) came

pub reach-came : (came : List Came) → (reach_after came).came ≡ came
reach-came came = fold-came first_reach came

pub reach-append : (a b : List Came) → reach_after (a ++ b) ≡ fold next_reach (reach_after a) b
reach-append a b = fold-append next_reach first_reach a b

pub reach-push : (a : List Came) (c : Came) → reach_after (a ++ c ∷ []) ≡ next_reach (reach_after a) c
reach-push a c = reach-append a (c ∷ [])
