use Rattle.std.proofs.Common.{subst}
use Rattle.cmd_script.specs.declared.script.Script.{Script}
use Rattle.cmd_soak.specs.Soak.{soak_script}
use Rattle.cmd_rehearse.specs.Promise.{Gave}
use Rattle.cmd_rehearse.proofs.Giving.{gave_behind, gave_unbegun}
use Rattle.cmd_rehearse.proofs.soaking.run_soak.Goals as goal

pub returns-in_default-begin-clause-gave : goal.returns-in_default-begin-clause-gave
returns-in_default-begin-clause-gave g c =
    gave_unbegun (soak_script c.args.messages) (g.K.Sink.taken c.args.out.now) (g.K.Sink.taken c.begin.new.sink) c.begin.ensures.nothing

pub returns-clause-gave : goal.returns-clause-gave
returns-clause-gave g c =
    subst (λ (s : Script). Gave s (g.K.Sink.taken c.args.out.now) (g.K.Sink.taken c.run_script.new.out) c.run_script.result) c.in-Ok.ensures.value
    (gave_behind c.in-Ok.script (g.K.Sink.taken c.args.out.now) (g.K.Sink.taken c.begin.new.sink) (g.K.Sink.taken c.run_script.new.out) c.run_script.result c.begin.ensures.nothing c.run_script.ensures.gave)
