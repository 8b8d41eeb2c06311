use Rattle.std.proofs.Common.{inr, subst}
use Rattle.std.specs.Io.KnownBytes.{Appends}
use Rattle.gw_outside.specs.Faults.{TakesFront}
use Rattle.cmd_rehearse.proofs.Giving.{are_lines}
use Rattle.cmd_rehearse.proofs.command.give.Goals as goal

pub returns-in-Ok-push_all-clause-gave : goal.returns-in-Ok-push_all-clause-gave
returns-in-Ok-push_all-clause-gave g c = (
  c.in-Ok.lines.items,
  are_lines c.args.script.now c.args.rehearsal.now c.requires.rehearsed c.in-Ok.lines.items c.in-Ok.ensures,
  subst (λ bs. Appends (g.K.Sink.taken c.args.out.now) (g.K.Sink.taken c.push_all.new.sink) bs) c.as_slice.ensures.value c.in-Ok-push_all.ensures.ok,
)

pub returns-clause-gave : goal.returns-clause-gave
returns-clause-gave g c =
    inr (
      c.in-Ok.lines.items,
      are_lines c.args.script.now c.args.rehearsal.now c.requires.rehearsed c.in-Ok.lines.items c.in-Ok.ensures,
      subst (λ bs. TakesFront (g.K.Sink.taken c.args.out.now) (g.K.Sink.taken c.push_all.new.sink) bs) c.as_slice.ensures.value c.in-Err.ensures.err,
    )
