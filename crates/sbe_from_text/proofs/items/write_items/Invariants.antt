use Rattle.std.proofs.Common.{◌≡◌, ◌≤◌, length, drop}
use Rattle.text_words.specs.Lines.{lines_in}
use Rattle.sbe_from_text.proofs.Parts.{items_left}
use Rattle.sbe_from_text.proofs.items.write_items.Given as goal

-- the bytes of the items that are left stand behind those that are written
abbrev pub invariant-loop-plan : goal.invariant-loop-plan
invariant-loop-plan l = record {
  within : l.block.start ≤ length l.out.items;
  bytes :
      items_left l.listings l.order l.block.size l.block.start l.before l.out.items (drop l.plan-index l.plans) (lines_in l.left)
      ≡ items_left l.listings l.order l.block.size l.block.start l.before l.fn.out.items l.plans (lines_in l.fn.left);
}
