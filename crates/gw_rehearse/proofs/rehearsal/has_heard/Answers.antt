use Rattle.std.proofs.Common.{sym, ◌∙◌}
use Rattle.gw_rehearse.proofs.Finishing.{heard_marked}
use Rattle.gw_rehearse.proofs.rehearsal.has_heard.Goals as goal

pub returns-in-Recoverable : goal.returns-in-Recoverable
returns-in-Recoverable c = λ is absent.
    heard_marked c.args.journals.now c.peer_last.result c.peer_last.ensures.mark (sym c.is_some.ensures ∙ is)
