-- The share of a desk, and its plan, over more messages.
use Rattle.std.proofs.Common.{◌≡◌, ℕ, ◌+◌, Bool, true, false, List, [], ◌∷◌, ◌++◌, length, if◌then◌else◌, refl, sym, ap, ◌∙◌, arith}
use Rattle.std.specs.Prelude.{◌==◌, nat_le, ◌&&◌, flat_map}
use Rattle.std.proofs.lemmas.List.Concat.{flat_map-append}
use mathlib.Core.List.{IsPrefix}
use Rattle.order_desk.specs.Schema.{order_plan}
use Rattle.order_desk.specs.Plans.{answers, desk_at, share}
use Rattle.order_desk.specs.Laws.{ShareGoesOn, DeskPlanGoesOn}

-- one more in front, or not
before : (b : Bool) (m : List ℕ) (whole first behind : List (List ℕ)) → whole ≡ first ++ behind → (if b then m ∷ whole else whole) ≡ (if b then m ∷ first else first) ++ behind
before true m whole first behind e = ap (λ (ms : List (List ℕ)). m ∷ ms) e
before false m whole first behind e = e

pub share_goes_on : ShareGoesOn
share_goes_on d s n [] more = ap (λ (k : ℕ). share d s k more) (omega arith)
share_goes_on d s n (m ∷ ms) more =
    before (desk_at d n == s) m _ _ _ (share_goes_on d s (n + 1) ms more ∙ ap (λ (k : ℕ). share d s (n + 1) ms ++ share d s k more) (omega arith))

-- a list that is sent or not
sent_on : (b : Bool) (first more whole : List (List ℕ)) → first ++ more ≡ whole → IsPrefix (if b then first else []) (if b then whole else [])
sent_on true first more whole e = (more, e)
sent_on false first more whole e = ([], refl)

pub desk_plan_goes_on : DeskPlanGoesOn
desk_plan_goes_on d version reference s earlier later longer =
    let sent = answers (order_plan version) s reference in
    let first = share d s 1 earlier in
    let more = share d s (1 + length earlier) longer.0 in
    let whole : flat_map sent (share d s 1 later) ≡ flat_map sent first ++ flat_map sent more =
    ap (λ (ms : List (List ℕ)). flat_map sent (share d s 1 ms)) (sym longer.1) ∙ ap (flat_map sent) (share_goes_on d s 1 earlier longer.0) ∙ flat_map-append sent first more in
    sent_on (nat_le 1 s && nat_le s d) _ (flat_map sent more) _ (sym whole)
