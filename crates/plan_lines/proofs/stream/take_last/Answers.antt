use Rattle.plan_lines.proofs.Reading.{end_ok, end_err}
use Rattle.plan_lines.proofs.stream.take_last.Goals as goal

pub returns-in-Ok-clause-goes : goal.returns-in-Ok-clause-goes
returns-in-Ok-clause-goes c =
    end_ok c.args.plan.now c.args.place.now c.take_rest.new.place c.take_rest.new.place c.args.reader.now c.take_end.result c.in-Ok.ensures.stands c.take_end.ensures.ends

pub returns-in-Ok-clause-stops : goal.returns-in-Ok-clause-stops
returns-in-Ok-clause-stops c =
    end_err c.args.plan.now c.args.place.now c.take_rest.new.place c.take_rest.new.place c.args.reader.now c.take_end.result c.in-Ok.ensures.stands c.take_end.ensures.halts
