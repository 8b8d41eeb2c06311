use Rattle.std.proofs.Common.{◌∙◌}
use Rattle.plan_lines.proofs.Reading.{next_goes, next_stops, rest_goes}
use Rattle.plan_lines.proofs.stream.take_read.Goals as goal

pub loop-found-preserved : goal.loop-found-preserved
loop-found-preserved c = record {
  sender = c.in_default-take_found.ensures.sender;
  form = c.take_found.ensures.form ∙ c.loop-found.invariant.form;
  goes = λ pushed read r.
      next_goes c.args.plan.now c.loop-found.place c.take_found.new.self c.loop-found.reader c.next.new.self c.in-Some.found c.in-Some.ensures.line c.in_default-take_found.ensures.goes pushed read
      (c.loop-found.invariant.goes pushed read r);
}

pub returns-in-Err-clause-stops : goal.returns-in-Err-clause-stops
returns-in-Err-clause-stops c =
    next_stops c.args.plan.now c.args.place.now c.loop-found.place c.take_found.new.self c.args.reader.now c.loop-found.reader c.next.new.self c.in-Some.found c.in-Err.stop c.in-Some.ensures.line
    c.in-Err.ensures.halts c.loop-found.invariant.goes

pub returns-clause-goes : goal.returns-clause-goes
returns-clause-goes c =
    rest_goes c.args.plan.now c.args.place.now c.loop-found.place c.args.reader.now c.loop-found.reader c.next.new.self c.in_default.ensures.none c.loop-found.invariant.goes
