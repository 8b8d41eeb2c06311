use Rattle.plan_lines.proofs.Reading.{last_ok, last_err, none_stands}
use Rattle.plan_lines.proofs.stream.take_rest.Goals as goal

pub returns-in-Some-clause-stands : goal.returns-in-Some-clause-stands
returns-in-Some-clause-stands c =
    last_ok c.args.plan.now c.args.place.now c.take_found.new.self c.args.reader.now c.last.new.self c.in-Some.found c.take_found.result c.in-Some.ensures.line c.take_found.ensures.goes

pub returns-in-Some-clause-stops : goal.returns-in-Some-clause-stops
returns-in-Some-clause-stops c =
    last_err c.args.plan.now c.args.place.now c.take_found.new.self c.args.reader.now c.last.new.self c.in-Some.found c.take_found.result c.in-Some.ensures.line c.take_found.ensures.halts

pub returns-in-None-clause-stands : goal.returns-in-None-clause-stands
returns-in-None-clause-stands c = none_stands c.args.plan.now c.args.place.now c.args.reader.now c.in-None.ensures.none
