use Rattle.text_words.specs.Lines.{lines_in}
use Rattle.sbe_from_text.proofs.Parts.{data_step, data_end}
use Rattle.sbe_from_text.proofs.items.write_data.Goals as goal

pub loop-plan-preserved : goal.loop-plan-preserved
loop-plan-preserved c =
    data_step c.args.order c.args.before.now c.loop-plan.out.items c.write_data_line.new.out.items c.args.plans.now c.loop-plan.plan-index c.plan-item.result (lines_in c.loop-plan.left.now) (lines_in c.in_ok-left.left.now) _ c.loop-plan-test.true c.plan-item.is c.in_ok-left.ensures c.loop-plan.invariant

pub returns : goal.returns
returns c =
    data_end c.args.order c.args.before.now c.loop-plan.out.items c.args.plans.now c.loop-plan.plan-index (lines_in c.loop-plan.left.now) _ c.loop-plan-test.false c.loop-plan.invariant
