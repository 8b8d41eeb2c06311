-- A plan in its place, changed.
use Rattle.std.proofs.Common.{◌≡◌, ℕ, zero, suc, ◌+◌, ◌-◌, ◌<◌, ◌≤◌, ◌==◌, true, false, if◌then◌else◌, List, [], ◌∷◌, ◌++◌, length, take, get_or, refl, ap, sym, ◌∙◌, arith}
use Rattle.std.proofs.Math.ListN.{set, length-set}
use Rattle.std.proofs.lemmas.Bool.Decides.{nat_tests}
use Rattle.plan_values.specs.Plans.{payloads_of}
use Rattle.plan_values.specs.declared.plan.Plan.{Plan}
use Rattle.plan_text.specs.Progress.{IsAdded}

at_place : (old : List Plan) (new d : Plan) (k i : ℕ) (all : List (List ℕ)) → k < length old → i ≡ k → payloads_of new ≡ all → payloads_of (get_or (set old k new) i d) ≡ all
at_place (x ∷ old) new d zero zero all l e is = is
at_place (x ∷ old) new d zero (suc i) all l e is = absurd (omega arith)
at_place (x ∷ old) new d (suc k) zero all l e is = absurd (omega arith)
at_place (x ∷ old) new d (suc k) (suc i) all l e is = at_place old new d k i all (omega arith) (omega arith) is
at_place [] new d k i all l e is = absurd (omega arith)

elsewhere : (old : List Plan) (new d : Plan) (k i : ℕ) → (i ≡ k → ⊥) → payloads_of (get_or (set old k new) i d) ≡ payloads_of (get_or old i d)
elsewhere [] new d k i e = refl
elsewhere (x ∷ old) new d zero zero e = absurd (e refl)
elsewhere (x ∷ old) new d zero (suc i) e = refl
elsewhere (x ∷ old) new d (suc k) zero e = refl
elsewhere (x ∷ old) new d (suc k) (suc i) e = elsewhere old new d k i (λ same. e (ap suc same))

default : (old : List Plan) (k : ℕ) (d e : Plan) → k < length old → payloads_of (get_or old k d) ≡ payloads_of (get_or old k e)
default [] k d e l = absurd (omega arith)
default (x ∷ old) zero d e l = refl
default (x ∷ old) (suc k) d e l = default old k d e (omega arith)

pub added_at : (sender : ℕ) (payload : List ℕ) (old : List Plan) (new at : Plan) → 1 ≤ sender → sender ≤ length old → payloads_of new ≡ payloads_of (get_or old (sender - 1) at) ++ payload ∷ []
    → IsAdded (record { sender = sender; payload = payload }) old (set old (sender - 1) new)
added_at sender payload old new at least most grown = record { many = length-set old (sender - 1) new; each = each }
  where
    each : (i : ℕ) (d : Plan) → i < length old → payloads_of (get_or (set old (sender - 1) new) i d) ≡ (if sender == i + 1 then payloads_of (get_or old i d) ++ payload ∷ [] else payloads_of (get_or old i d))
    each i d l = elim (sender == i + 1) as (λ t. (sender == i + 1) ≡ t → payloads_of (get_or (set old (sender - 1) new) i d) ≡ (if t then payloads_of (get_or old i d) ++ payload ∷ [] else payloads_of (get_or old i d))) [
      | true ↦ λ same.
          let place : i ≡ sender - 1 = grind (arith, nat_tests) in
          let below : sender - 1 < length old = omega arith in
          let here : payloads_of (get_or old (sender - 1) at) ≡ payloads_of (get_or old i d) = default old (sender - 1) at d below ∙ ap (λ (k : ℕ). payloads_of (get_or old k d)) (sym place) in
          at_place old new d (sender - 1) i (payloads_of (get_or old i d) ++ payload ∷ []) below place (grown ∙ ap (λ (ps : List (List ℕ)). ps ++ payload ∷ []) here)
      | false ↦ λ other.
          let apart : i ≡ sender - 1 → ⊥ = λ place. grind (arith, nat_tests) in
          elsewhere old new d (sender - 1) i apart
    ] refl

-- plans written back over as many
pub written_back : (n : ℕ) (new rest : List Plan) → length new ≡ n → take n (new ++ rest) ≡ new
written_back zero [] rest e = refl
written_back (suc n) [] rest e = absurd (omega arith)
written_back zero (x ∷ new) rest e = absurd (omega arith)
written_back (suc n) (x ∷ new) rest e = ap (λ (ps : List Plan). x ∷ ps) (written_back n new rest (omega arith))
