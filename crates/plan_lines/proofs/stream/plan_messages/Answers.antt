use Rattle.std.proofs.Common.{◌∙◌, subst, sym, arith}
use Rattle.jr_record.specs.Records.{IsSender}
use Rattle.plan_lines.specs.declared.form.Form.{Form}
use Rattle.plan_lines.specs.Progress.{KeepsTo, Streams}
use Rattle.plan_lines.proofs.Rounds.{begins, unmade}
use Rattle.plan_lines.proofs.stream.plan_messages.Goals as goal

pub returns-in_default-clause-gave : goal.returns-in_default-clause-gave
returns-in_default-clause-gave g c = unmade c.args.plan.now c.args.form (record { input = g.S.Source.left c.args.input.now; out = g.K.Sink.taken c.args.out.now })

pub loop-init : goal.loop-init
loop-init g c = record {
  waiting = c.in-Ok.ensures.waiting;
  empty = c.new-place.ensures.lines_are;
  sender = subst IsSender (sym c.new-place.ensures.sender_is) (omega arith, omega arith);
  form = c.new-place.ensures.form_is;
  stands = begins c.args.plan.now c.args.form (record { input = g.S.Source.left c.args.input.now; out = g.K.Sink.taken c.args.out.now }) c.in-Ok.reader c.new-place.result c.in-Ok.ensures.given c.new-place.ensures;
  input_counted = omega arith;
  out_counted = omega arith;
}

pub loop-preserved : goal.loop-preserved
loop-preserved g c =
    let after = c.in-Ok-true.ensures.after _ c.loop.invariant.stands in
    record {
      waiting = c.in-Ok-true.ensures.waiting;
      empty = c.in-Ok-true.ensures.empty;
      sender = c.in-Ok-true.ensures.sender;
      form = c.round.ensures.form ∙ c.loop.invariant.form;
      stands = after.stands;
      input_counted = omega (arith, c.loop.invariant.input_counted, c.round.ensures.input_counted);
      out_counted = omega (arith, c.loop.invariant.out_counted, c.round.ensures.out_counted);
    }

pub returns-in-Ok-false-clause-gave : goal.returns-in-Ok-false-clause-gave
returns-in-Ok-false-clause-gave g c =
    let after = c.in-Ok-false.ensures.after _ c.loop.invariant.stands in
    subst (λ (f : Form). KeepsTo c.args.plan.now f (record { input = g.S.Source.left c.args.input.now; out = g.K.Sink.taken c.args.out.now })
    (record { input = g.S.Source.left c.round.new.input; out = g.K.Sink.taken c.finish.new.out }) c.finish.result) (c.round.ensures.form ∙ c.loop.invariant.form)
    (c.finish.ensures.promise _ (g.S.Source.left c.round.new.input) after.stands (after.at_end c.in-Ok-false.field-0-test))

pub returns-in-Err-clause-gave : goal.returns-in-Err-clause-gave
returns-in-Err-clause-gave g c =
    subst (λ (f : Form). KeepsTo c.args.plan.now f (record { input = g.S.Source.left c.args.input.now; out = g.K.Sink.taken c.args.out.now })
    (record { input = g.S.Source.left c.round.new.input; out = g.K.Sink.taken c.round.new.out }) c.in-Err.end) c.loop.invariant.form (c.in-Err.ensures.after _ c.loop.invariant.stands)
