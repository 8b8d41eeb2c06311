use Rattle.std.proofs.Common.{Option, sym, ap, subst}
use Rattle.fixp_replies.specs.declared.act.Ending.{Ending}
use Rattle.fixp_replies.specs.Outcomes.{Outcome}
use Rattle.fixp_machine.specs.Machine.{Windowed, held_until}
use Rattle.fixp_machine.proofs.Windowing.{windowed_empty}
use Rattle.fixp_end.proofs.sound.break_connection.Goals as goal

pub returns-clause-window : goal.returns-clause-window
returns-clause-window c held =
    let x = c.args.around.now in
    subst (λ (e : Option Ending). Windowed x.config.now x.most c.args.facts.now e (held_until e held)) (sym (ap (λ (o : Outcome). o.ending) c.breaks.ensures.reply))
    (windowed_empty x.config.now x.most c.args.facts.now _)
