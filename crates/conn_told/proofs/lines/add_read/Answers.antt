use Rattle.conn_told.proofs.Telling.{next_goes, next_stops, rest_goes}
use Rattle.conn_told.proofs.lines.add_read.Goals as goal

pub loop-found-preserved : goal.loop-found-preserved
loop-found-preserved c = record {
  goes = λ pushed read r.
      next_goes c.args.plan.now c.loop-found.text.items c.add_found.new.text.items c.loop-found.reader c.next.new.self c.in-Some.found c.line.result.now c.in-Some.ensures.line c.line.ensures
      c.in_default-add_found.ensures pushed read (c.loop-found.invariant.goes pushed read r);
}

pub returns-in-Err-clause-stops : goal.returns-in-Err-clause-stops
returns-in-Err-clause-stops c =
    next_stops c.args.plan.now c.args.text.now.items c.loop-found.text.items c.add_found.new.text.items c.args.reader.now c.loop-found.reader c.next.new.self c.in-Some.found c.line.result.now c.in-Err.stop
    c.in-Some.ensures.line c.line.ensures c.in-Err.ensures c.loop-found.invariant.goes

pub returns-clause-goes : goal.returns-clause-goes
returns-clause-goes c =
    rest_goes c.args.plan.now c.args.text.now.items c.loop-found.text.items c.args.reader.now c.loop-found.reader c.next.new.self c.in_default.ensures.none c.loop-found.invariant.goes
