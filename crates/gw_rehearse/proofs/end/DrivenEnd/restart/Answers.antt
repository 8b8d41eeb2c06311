use Rattle.cmd_config.specs.Settings.{own_flow, peer_flow}
use Rattle.gw_rehearse.proofs.Stopping.{lives_if}
use Rattle.gw_rehearse.proofs.end.DrivenEnd.restart.Goals as goal

pub returns-in-None-clause-next : goal.returns-in-None-clause-next
returns-in-None-clause-next c =
    let link = c.args.script.now.link in
    let e = c.into_disks-disks in
    lives_if (own_flow c.args.role link.client_flow link.server_flow) (peer_flow c.args.role link.client_flow link.server_flow) c.args.self c.close-journals.result e.result c.reopen_stopped.result
    c.close-journals.ensures.closed e.ensures.outbox e.ensures.inbox c.reopen_stopped.ensures.begins

pub returns-in-Some-clause-next : goal.returns-in-Some-clause-next
returns-in-Some-clause-next c =
    let link = c.args.script.now.link in
    let e = c.into_disks-disks in
    lives_if (own_flow c.args.role link.client_flow link.server_flow) (peer_flow c.args.role link.client_flow link.server_flow) c.args.self c.close-journals.result e.result c.reopen_fused.result
    c.close-journals.ensures.closed e.ensures.outbox e.ensures.inbox c.reopen_fused.ensures.begins
