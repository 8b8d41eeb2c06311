use Rattle.std.proofs.Math.Logic.{∥∥₁_map}
use Rattle.gw_rehearse.proofs.Opening.{begins_empty}
use Rattle.gw_rehearse.proofs.end.DrivenEnd.open.Goals as goal

pub returns-in-Ok-clause-first : goal.returns-in-Ok-clause-first
returns-in-Ok-clause-first c =
    ∥∥₁_map c.in-Ok.ensures.begins (λ n. begins_empty c.args.config.own_flow c.args.config.peer_flow c.in_ok-disks.disks c.in-Ok.end c.in_ok-disks.ensures.outbox c.in_ok-disks.ensures.inbox n)
