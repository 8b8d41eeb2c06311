use Rattle.cmd_config.specs.Settings.{own_flow, peer_flow}
use Rattle.gw_rehearse.proofs.Opening.{begins_as}
use Rattle.gw_rehearse.proofs.end.reopen_as.Goals as goal

pub returns-clause-begins : goal.returns-clause-begins
returns-clause-begins c =
    let link = c.args.script.now.link in
    let came = c.in-Ok in
    begins_as came.config.own_flow came.config.peer_flow (own_flow c.args.role link.client_flow link.server_flow) (peer_flow c.args.role link.client_flow link.server_flow) c.args.disks c.reopen.result
    came.ensures.own came.ensures.peer c.reopen.ensures.begins
