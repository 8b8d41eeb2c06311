use Rattle.std.proofs.Common.{◌≡◌, ◌∷◌, [], ◌++◌, ◌+◌, ◌*◌, ◌-◌, drop, take}
use Rattle.sbe_layout.specs.Trees.{weight_of}
use Rattle.sbe_layout.specs.Views.{plans_of}
use Rattle.sbe_decode.specs.Walks.{read_parts}
use Rattle.sbe_text.proofs.Walked.{groups_left, entries_left}
use Rattle.sbe_text.proofs.wire.+blocks.Given as goal

abbrev pub decreases-print_groups : goal.decreases-print_groups
decreases-print_groups l = 4 * weight_of (plans_of l.plans.now) + 1

abbrev pub decreases-print_group : goal.decreases-print_group
decreases-print_group l = 4 * weight_of l.plan.now.block.groups + 4

abbrev pub decreases-print_entries : goal.decreases-print_entries
decreases-print_entries l = 4 * weight_of l.plan.now.block.groups + 3

abbrev pub decreases-print_block : goal.decreases-print_block
decreases-print_block l = 4 * weight_of l.plan.now.groups + 2

-- the lines of the groups that are left stand behind those that are written
abbrev pub invariant-print_groups-loop-plan : goal.invariant-print_groups-loop-plan
invariant-print_groups-loop-plan l = record {
  lines :
      groups_left l.listings l.reading.order l.reading.version l.reading.total l.fn.draft.names.items l.draft.lines.items (drop l.plan-index l.plans) l.left
      ≡ groups_left l.listings l.reading.order l.reading.version l.reading.total l.fn.draft.names.items l.fn.draft.lines.items l.plans l.fn.left;
  names : l.draft.names.items ≡ l.fn.draft.names.items;
}

-- the lines of the entries that are left stand behind those that are written
abbrev pub invariant-print_entries-loop-at : goal.invariant-print_entries-loop-at
invariant-print_entries-loop-at l = record {
  lines :
      entries_left l.listings l.fn.draft.names.items l.plan (read_parts l.reading.order l.reading.version l.reading.total l.dimension.size l.plan.block) l.at l.draft.lines.items (l.dimension.count - l.at) l.left
      ≡ entries_left l.listings l.fn.draft.names.items l.plan (read_parts l.reading.order l.reading.version l.reading.total l.dimension.size l.plan.block) 0 l.fn.draft.lines.items l.dimension.count l.fn.left;
  names : take l.opened l.draft.names.items ≡ l.fn.draft.names.items ++ l.plan.name ++ 91 ∷ [];
}
