use Rattle.std.proofs.Common.{subst}
use Rattle.std.specs.Io.KnownBytes.{Appends}
use Rattle.gw_outside.specs.Faults.{TakesFront}
use Rattle.cmd_datagram.proofs.Worlds.{lines_are}
use Rattle.cmd_datagram.proofs.command.run_script.Goals as goal

pub returns-in-Ok-give_all-clause-gave : goal.returns-in-Ok-give_all-clause-gave
returns-in-Ok-give_all-clause-gave g c =
    subst (Appends (g.K.Sink.taken c.args.out.now) (g.K.Sink.taken c.give_all.new.out)) (lines_are c.cut_is_written.ensures.law c.args.script.now c.requires) c.in-Ok-give_all.ensures.ok

pub returns-in-Err-Output-clause-gave : goal.returns-in-Err-Output-clause-gave
returns-in-Err-Output-clause-gave g c =
    subst (TakesFront (g.K.Sink.taken c.args.out.now) (g.K.Sink.taken c.give_all.new.out)) (lines_are c.cut_is_written.ensures.law c.args.script.now c.requires) c.in-Err-Output.ensures.err

pub returns-clause-gave : goal.returns-clause-gave
returns-clause-gave g c =
    subst (TakesFront (g.K.Sink.taken c.args.out.now) (g.K.Sink.taken c.give_all.new.out)) (lines_are c.cut_is_written.ensures.law c.args.script.now c.requires) c.in-Err-Memory.ensures.err
