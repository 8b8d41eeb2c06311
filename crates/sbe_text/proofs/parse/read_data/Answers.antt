use Rattle.std.proofs.lemmas.Result.{err_from_is_err_and}
use Rattle.text_words.specs.Lines.{lines_in}
use Rattle.sbe_text.specs.Reading.{read_datum}
use Rattle.sbe_text.proofs.Made.{each_step, each_fails, each_end}
use Rattle.sbe_text.proofs.parse.read_data.Goals as goal

pub returns-in_err-datum : goal.returns-in_err-datum
returns-in_err-datum c =
    let p = err_from_is_err_and c.from_residual-in_err-datum.result c.from_residual-in_err-datum.ensures.1 in
    rw (p.1, p.2) (each_fails (read_datum c.args.before.now) c.loop-plan.«data».items c.args.plans.now c.loop-plan.plan-index c.plan-item.result (lines_in c.loop-plan.left.now) c.in_err-datum.field-0.0 _ c.loop-plan-test.true c.plan-item.is c.in_err-datum.ensures c.loop-plan.invariant)

pub loop-plan-preserved : goal.loop-plan-preserved
loop-plan-preserved c =
    rw c.in_ok-push.ensures.items (each_step (read_datum c.args.before.now) c.loop-plan.«data».items c.in_ok-datum.datum c.args.plans.now c.loop-plan.plan-index c.plan-item.result (lines_in c.loop-plan.left.now) (lines_in c.in_ok-datum.rest.now) _ c.loop-plan-test.true c.plan-item.is c.in_ok-datum.ensures c.loop-plan.invariant)

pub returns : goal.returns
returns c =
    each_end (read_datum c.args.before.now) c.loop-plan.«data».items c.args.plans.now c.loop-plan.plan-index (lines_in c.loop-plan.left.now) _ c.loop-plan-test.false c.loop-plan.invariant
