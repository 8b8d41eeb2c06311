-- A plan that grew holds payloads of application messages alone.
use Rattle.std.proofs.Common.{◌≡◌, ℕ, zero, suc, List, [], ◌∷◌, ◌++◌, take, drop, sym, subst}
use Rattle.std.specs.Prelude.{Result, Ok, Err, OnOk, OnErr, All}
use Rattle.std.proofs.Math.Logic.{∥∥₁_map, ∥∥₁_elim}
use Rattle.std.proofs.lemmas.List.Elements.{All-push, All-from_recursion, recursion_from_All}
use Rattle.std.specs.List.{AllByRecursion}
use Rattle.fixp_msgs.specs.Payload.{IsApplication}

pub all_added : {A E : Type 0} (r : Result A E) (old new : List (List ℕ)) (payload : List ℕ) → OnOk r (new ≡ old ++ payload ∷ []) → OnErr r (new ≡ old) → IsApplication payload
    → ∥ All IsApplication old ∥₁ → ∥ All IsApplication new ∥₁
all_added (Ok u) old new payload is same here held = ∥∥₁_map held (λ all. subst (All IsApplication) (sym is) (All-push IsApplication old payload all here))
all_added (Err e) old new payload is same here held = subst (λ (ps : List (List ℕ)). ∥ All IsApplication ps ∥₁) (sym same) held

-- a piece of one too
pub all_piece : (done count : ℕ) (payloads : List (List ℕ)) → All IsApplication payloads → All IsApplication (take count (drop done payloads))
all_piece done count payloads all =
    All-from_recursion IsApplication (take count (drop done payloads)) (front count (drop done payloads) (behind done payloads (recursion_from_All IsApplication payloads all)))
  where
    behind : (n : ℕ) (ps : List (List ℕ)) → AllByRecursion IsApplication ps → AllByRecursion IsApplication (drop n ps)
    behind zero ps all = all
    behind (suc n) [] all = all
    behind (suc n) (p ∷ ps) all = behind n ps all.1

    front : (n : ℕ) (ps : List (List ℕ)) → AllByRecursion IsApplication ps → AllByRecursion IsApplication (take n ps)
    front zero ps all = tt
    front (suc n) [] all = tt
    front (suc n) (p ∷ ps) all = (all.0, front n ps all.1)

pub no_other : (done count : ℕ) (payloads piece : List (List ℕ)) → piece ≡ take count (drop done payloads) → ∥ All IsApplication payloads ∥₁ → (All IsApplication piece → ⊥) → ⊥
no_other done count payloads piece is held never =
    ∥∥₁_elim held (λ x y. absurd x) (λ all. never (subst (All IsApplication) (sym is) (all_piece done count payloads all)))
