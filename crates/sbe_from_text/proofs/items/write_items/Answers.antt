use Rattle.std.proofs.Common.{◌≡◌, ◌++◌, ◌∙◌, ◌-◌, ap, length, arith}
use Rattle.sbe_grammar.specs.Canonical.{item_bytes, zeros}
use Rattle.sbe_encode.specs.Faults.{item_fault}
use Rattle.text_words.specs.Lines.{lines_in}
use Rattle.sbe_text.specs.Reading.{read_item}
use Rattle.sbe_from_text.proofs.Parts.{items_within, items_step, items_end}
use Rattle.sbe_from_text.proofs.items.write_items.Goals as goal

pub loop-plan-preserved : goal.loop-plan-preserved
loop-plan-preserved c =
    let p = c.plan-item.result in
    let old = c.loop-plan.out.items in
    let between = c.write_zeros.new.out.items in
    let new = c.write_item.new.out.items in
    let gap : c.saturating_sub.result ≡ p.offset - (length old - c.args.block.start) = omega arith in
    let zero : between ≡ old ++ zeros (p.offset - (length old - c.args.block.start)) = c.in-Ok.ensures ∙ ap (λ n. old ++ zeros n) gap in
    record {
      within = items_within c.args.block.start (p.offset - (length old - c.args.block.start)) old between new (item_fault c.args.listings.now p) (item_bytes c.args.order p) (read_item c.args.before.now p (lines_in c.loop-plan.left.now)) (lines_in c.in_ok-left.left.now) c.loop-plan.invariant.within zero c.in_ok-left.ensures;
      bytes = items_step c.args.listings.now c.args.order c.args.block.size c.args.block.start c.args.before.now old between new c.args.plans.now c.loop-plan.plan-index p (lines_in c.loop-plan.left.now) (lines_in c.in_ok-left.left.now) _ c.loop-plan-test.true c.plan-item.is c.loop-plan.invariant.within zero c.in_ok-left.ensures c.loop-plan.invariant.bytes;
    }

pub returns-in-Ok-end_block : goal.returns-in-Ok-end_block
returns-in-Ok-end_block c =
    rw c.in-Ok-end_block.ensures (items_end c.args.listings.now c.args.order c.args.block.size c.args.block.start c.args.before.now c.loop-plan.out.items c.args.plans.now c.loop-plan.plan-index (lines_in c.loop-plan.left.now) _ c.loop-plan-test.false c.loop-plan.invariant.bytes)
