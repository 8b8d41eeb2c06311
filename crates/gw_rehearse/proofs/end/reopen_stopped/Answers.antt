use Rattle.std.proofs.Math.Logic.{∥∥₁_map}
use Rattle.cmd_config.specs.Settings.{own_flow, peer_flow}
use Rattle.gw_rehearse.proofs.Opening.{begins_more}
use Rattle.gw_rehearse.proofs.end.reopen_stopped.Goals as goal

pub returns-in-Ok-clause-begins : goal.returns-in-Ok-clause-begins
returns-in-Ok-clause-begins c =
    let link = c.args.script.now.link in
    ∥∥₁_map c.in-Ok.ensures.begins (λ n. begins_more (own_flow c.args.role link.client_flow link.server_flow) (peer_flow c.args.role link.client_flow link.server_flow) c.args.disks c.stop-stopped.result c.in-Ok.end
    c.stop-stopped.ensures n)
