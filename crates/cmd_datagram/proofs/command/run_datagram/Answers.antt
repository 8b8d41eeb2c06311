use Rattle.std.proofs.Common.{◌≡◌, subst}
use Rattle.cmd_datagram.specs.declared.script.Script.{Script}
use Rattle.cmd_datagram.specs.Promise.{Gave}
use Rattle.cmd_datagram.specs.Script.{script_of_text}
use Rattle.cmd_datagram.proofs.Giving.{gave_behind, gave_unbegun, same_script}
use Rattle.cmd_datagram.proofs.command.run_datagram.Goals as goal

pub returns-in_default-clause-gave : goal.returns-in_default-clause-gave
returns-in_default-clause-gave g c = λ text told script is. gave_unbegun script (g.K.Sink.taken c.args.devices.now.out) (g.K.Sink.taken c.begin.new.sink) c.begin.ensures.nothing

pub returns-clause-gave : goal.returns-clause-gave
returns-clause-gave g c = λ text told script is.
    let same : c.in-Ok.script ≡ script = same_script (script_of_text text) c.in-Ok.script script (c.in-Ok.ensures.ok text told) is in
    subst (λ (s : Script). Gave s (g.K.Sink.taken c.args.devices.now.out) (g.K.Sink.taken c.run_script.new.out) c.run_script.result) same
    (gave_behind c.in-Ok.script (g.K.Sink.taken c.args.devices.now.out) (g.K.Sink.taken c.begin.new.sink) (g.K.Sink.taken c.run_script.new.out) c.run_script.result c.begin.ensures.nothing c.run_script.ensures.gave)
