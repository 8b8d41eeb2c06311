use Rattle.std.proofs.Common.{sym, subst}
use Rattle.std.specs.Prelude.{IfSome}
use Rattle.std.proofs.Math.Logic.{∥∥₁_map}
use Rattle.cmd_config.specs.Settings.{own_flow, peer_flow}
use Rattle.gw_rehearse.specs.Stopped.{DisksLeaveNoMore}
use Rattle.gw_rehearse.proofs.Opening.{begins_more, begins_if, disks_on}
use Rattle.gw_rehearse.proofs.end.reopen_fused.Goals as goal

pub returns-in-Ok-clause-begins : goal.returns-in-Ok-clause-begins
returns-in-Ok-clause-begins c =
    let link = c.args.script.now.link in
    ∥∥₁_map c.in-Ok.ensures.begins (λ n. begins_more (own_flow c.args.role link.client_flow link.server_flow) (peer_flow c.args.role link.client_flow link.server_flow) c.args.disks c.fuse-fused.result c.in-Ok.end
    c.fuse-fused.ensures n)

pub returns-in-Err-Some-clause-begins : goal.returns-in-Err-Some-clause-begins
returns-in-Err-Some-clause-begins c =
    let link = c.args.script.now.link in
    let came = c.in-Err-Some in
    let fused = c.fuse-fused.result in
    let left = subst (λ d. DisksLeaveNoMore fused d) (sym came.failed-is) (subst (λ o. IfSome o (DisksLeaveNoMore fused)) came.field-0-is came.ensures.returned) in
    begins_if (own_flow c.args.role link.client_flow link.server_flow) (peer_flow c.args.role link.client_flow link.server_flow) c.args.disks came.failed c.reopen_stopped.result
    (disks_on c.args.disks fused came.failed c.fuse-fused.ensures left) c.reopen_stopped.ensures.begins
