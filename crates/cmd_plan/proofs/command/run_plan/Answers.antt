use Rattle.schema_load.specs.Load.{plan_of_text}
use Rattle.cmd_plan.proofs.Running.{none_given, planned_behind}
use Rattle.cmd_plan.proofs.command.run_plan.Goals as goal

pub returns-in_default-clause-gave : goal.returns-in_default-clause-gave
returns-in_default-clause-gave g c = λ text messages e f plan ok.
    none_given plan c.args.form messages (g.K.Sink.taken c.args.devices.now.out) (g.K.Sink.taken c.begin.new.sink) c.begin.ensures.nothing

pub returns-clause-gave : goal.returns-clause-gave
returns-clause-gave g c = λ text messages e f plan ok.
    planned_behind c.in-Ok.plan plan (plan_of_text text) c.args.form messages (g.K.Sink.taken c.args.devices.now.out) (g.K.Sink.taken c.begin.new.sink) (g.K.Sink.taken c.plan_messages-end.new.out)
    c.plan_messages-end.result c.outcome_of.result (c.in-Ok.ensures.ok text e) ok c.outcome_of.ensures c.begin.ensures.nothing (c.plan_messages-end.ensures.gave messages f)
