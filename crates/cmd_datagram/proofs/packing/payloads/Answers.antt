use Rattle.std.proofs.Common.{◌≡◌, List, ℕ, ◌∷◌, ◌++◌, [], ◌+◌, ap, ◌∙◌}
use Rattle.cmd_datagram.specs.Messages.{payload_of}
use Rattle.cmd_datagram.proofs.Payloads.{payloads_more}
use Rattle.cmd_datagram.proofs.packing.payloads.Goals as goal

pub loop-place-preserved : goal.loop-place-preserved
loop-place-preserved c =
    c.in_ok-push.ensures.ok
    ∙ (ap (λ (p : List ℕ). c.loop-place.payloads ++ p ∷ []) c.in_ok-payload.ensures
    ∙ (ap (λ (ps : List (List ℕ)). ps ++ payload_of (c.loop-place.place + 1) ∷ []) c.loop-place.invariant ∙ payloads_more c.loop-place.place))
