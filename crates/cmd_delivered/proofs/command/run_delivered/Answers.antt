use Rattle.schema_load.specs.Load.{plan_of_text}
use Rattle.cmd_delivered.proofs.Giving.{none_given, told_behind}
use Rattle.cmd_delivered.proofs.command.run_delivered.Goals as goal

pub returns-in_default-clause-gave : goal.returns-in_default-clause-gave
returns-in_default-clause-gave g c = λ text lines e f plan ok. none_given plan lines (g.K.Sink.taken c.args.devices.now.out) (g.K.Sink.taken c.begin.new.sink) c.begin.ensures.nothing

pub returns-clause-gave : goal.returns-clause-gave
returns-clause-gave g c = λ text lines e f plan ok.
    told_behind c.in-Ok.plan plan (plan_of_text text) lines (g.K.Sink.taken c.args.devices.now.out) (g.K.Sink.taken c.begin.new.sink) (g.K.Sink.taken c.tell_lines.new.out) c.tell_lines.result
    c.outcome_of.result (c.in-Ok.ensures.ok text e) ok c.outcome_of.ensures c.begin.ensures.nothing (c.tell_lines.ensures.told lines f)
