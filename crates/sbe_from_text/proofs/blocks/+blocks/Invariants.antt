use Rattle.std.proofs.Common.{◌≡◌, ◌∷◌, [], ◌++◌, ◌+◌, ◌*◌, ◌-◌, drop, take}
use Rattle.sbe_layout.specs.Trees.{weight_of}
use Rattle.sbe_layout.specs.Views.{plans_of}
use Rattle.text_words.specs.Lines.{lines_in}
use Rattle.sbe_from_text.proofs.Elements.{groups_left, entries_left}
use Rattle.sbe_from_text.proofs.blocks.+blocks.Given as goal

abbrev pub decreases-write_groups : goal.decreases-write_groups
decreases-write_groups l = 4 * weight_of (plans_of l.plans.now) + 1

abbrev pub decreases-write_group : goal.decreases-write_group
decreases-write_group l = 4 * weight_of l.plan.now.block.groups + 4

abbrev pub decreases-write_entries : goal.decreases-write_entries
decreases-write_entries l = 4 * weight_of l.plan.now.block.groups + 3

abbrev pub decreases-write_block : goal.decreases-write_block
decreases-write_block l = 4 * weight_of l.plan.now.groups + 2

-- the bytes of the groups that are left stand behind those that are written
abbrev pub invariant-write_groups-loop-plan : goal.invariant-write_groups-loop-plan
invariant-write_groups-loop-plan l = record {
  bytes :
      groups_left l.listings l.order l.fn.sheet.names.items l.sheet.bytes.items (drop l.plan-index l.plans) (lines_in l.left)
      ≡ groups_left l.listings l.order l.fn.sheet.names.items l.fn.sheet.bytes.items l.plans (lines_in l.fn.left);
  names : l.sheet.names.items ≡ l.fn.sheet.names.items;
}

-- the bytes of the entries that are left stand behind those that are written
abbrev pub invariant-write_entries-loop-at : goal.invariant-write_entries-loop-at
invariant-write_entries-loop-at l = record {
  bytes :
      entries_left l.listings l.order l.fn.sheet.names.items l.plan l.at l.sheet.bytes.items (l.count - l.at) (lines_in l.left)
      ≡ entries_left l.listings l.order l.fn.sheet.names.items l.plan 0 l.fn.sheet.bytes.items l.count (lines_in l.fn.left);
  names : take l.opened l.sheet.names.items ≡ l.fn.sheet.names.items ++ l.plan.name ++ 91 ∷ [];
}
