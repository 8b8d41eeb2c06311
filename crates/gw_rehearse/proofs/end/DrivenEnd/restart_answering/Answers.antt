use Rattle.std.proofs.Common.{sym, subst, refl}
use Rattle.cmd_config.specs.Settings.{own_flow, peer_flow}
use Rattle.gw_rehearse.specs.Together.{GoesOnBehind}
use Rattle.gw_rehearse.proofs.Stopping.{goes_resumed, goes_if}
use Rattle.gw_rehearse.proofs.end.DrivenEnd.restart_answering.Goals as goal

pub returns-then-resume-clause-next : goal.returns-then-resume-clause-next
returns-then-resume-clause-next g c =
    let link = c.args.script.now.link in
    let own = own_flow c.args.role link.client_flow link.server_flow in
    let peer = peer_flow c.args.role link.client_flow link.server_flow in
    let came = c.in-Some in
    let next = subst (λ e. GoesOnBehind own peer c.args.self e) (sym came.end-is) came.ensures.next in
    goes_resumed own peer c.args.self came.end c.resume.new.self (c.resume.ensures.stands c.if-resume.true) next

pub returns-clause-next : goal.returns-clause-next
returns-clause-next g c =
    let link = c.args.script.now.link in
    let own = own_flow c.args.role link.client_flow link.server_flow in
    let peer = peer_flow c.args.role link.client_flow link.server_flow in
    let came = c.in-Some in
    let next = subst (λ e. GoesOnBehind own peer c.args.self e) (sym came.end-is) came.ensures.next in
    goes_if own peer c.args.self came.end c.resume.new.self c.stop_answering.result c.resume.ensures.ended next c.stop_answering.ensures.next
