use Rattle.conn_told.proofs.Telling.{last_goes, last_stops, last_none}
use Rattle.conn_told.proofs.lines.add_last.Goals as goal

pub returns-in-Some-clause-goes : goal.returns-in-Some-clause-goes
returns-in-Some-clause-goes c =
    last_goes c.args.plan.now c.args.text.now.items c.add_found.new.text.items c.args.reader.now c.last.new.self c.in-Some.found c.line.result.now c.add_found.result c.in-Some.ensures.line c.line.ensures
    c.add_found.ensures

pub returns-in-Some-clause-stops : goal.returns-in-Some-clause-stops
returns-in-Some-clause-stops c =
    last_stops c.args.plan.now c.args.text.now.items c.add_found.new.text.items c.args.reader.now c.last.new.self c.in-Some.found c.line.result.now c.add_found.result c.in-Some.ensures.line c.line.ensures
    c.add_found.ensures

pub returns-in-None-clause-goes : goal.returns-in-None-clause-goes
returns-in-None-clause-goes c = last_none c.args.plan.now c.args.text.now.items c.args.reader.now c.in-None.ensures.none
