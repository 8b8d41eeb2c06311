use Rattle.std.proofs.Common.{[]}
use Rattle.cmd_config.specs.Settings.{own_flow, peer_flow}
use Rattle.gw_rehearse.proofs.Opening.{begun_as}
use Rattle.gw_rehearse.proofs.pair.open_end.Goals as goal

pub returns-then-resume-clause-first : goal.returns-then-resume-clause-first
returns-then-resume-clause-first g c =
    let link = c.args.script.now.link in
    let config = c.in-Ok in
    begun_as config.config.own_flow config.config.peer_flow (own_flow c.args.role link.client_flow link.server_flow) (peer_flow c.args.role link.client_flow link.server_flow) [] [] c.in-Some.end c.resume.new.self config.ensures.own
    config.ensures.peer (c.resume.ensures.stands c.if-resume.true) c.in-Some.ensures.first
