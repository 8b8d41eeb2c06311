use Rattle.std.proofs.Common.{refl, arith}
use Rattle.conn_told.specs.Progress.{Streams}
use Rattle.conn_told.proofs.Rounds.{begins, unmade}
use Rattle.conn_told.proofs.lines.tell_lines.Goals as goal

pub returns-in_default-clause-told : goal.returns-in_default-clause-told
returns-in_default-clause-told g c = unmade c.args.plan.now (record { input = g.S.Source.left c.args.input.now; out = g.K.Sink.taken c.args.out.now })

pub loop-init : goal.loop-init
loop-init g c = record {
  waiting = c.in-Ok.ensures.waiting;
  empty = c.new-text.ensures.items;
  stands = begins c.args.plan.now (record { input = g.S.Source.left c.args.input.now; out = g.K.Sink.taken c.args.out.now }) c.in-Ok.reader c.in-Ok.ensures.given;
  input_counted = omega arith;
  out_counted = omega arith;
}

pub loop-preserved : goal.loop-preserved
loop-preserved g c =
    let after = c.in-Ok-true.ensures.after _ c.loop.invariant.stands in
    record {
      waiting = c.in-Ok-true.ensures.waiting;
      empty = c.in-Ok-true.ensures.empty;
      stands = after.stands;
      input_counted = omega (arith, c.loop.invariant.input_counted, c.round.ensures.input_counted);
      out_counted = omega (arith, c.loop.invariant.out_counted, c.round.ensures.out_counted);
    }

pub returns-in-Ok-false-clause-told : goal.returns-in-Ok-false-clause-told
returns-in-Ok-false-clause-told g c =
    let after = c.in-Ok-false.ensures.after _ c.loop.invariant.stands in
    c.finish.ensures.promise _ (g.S.Source.left c.round.new.input) after.stands (after.at_end c.in-Ok-false.field-0-test)

pub returns-in-Err-clause-told : goal.returns-in-Err-clause-told
returns-in-Err-clause-told g c = c.in-Err.ensures.after _ c.loop.invariant.stands
