use Rattle.std.proofs.Common.{◌≡◌, ◌+◌, ◌*◌, ◌-◌, drop}
use Rattle.sbe_layout.specs.Trees.{weight_of}
use Rattle.sbe_layout.specs.Views.{plans_of}
use Rattle.sbe_grammar.specs.Reading.{read_groups, repeated}
use Rattle.sbe_decode.specs.Walks.{read_parts}
use Rattle.sbe_decode.proofs.Lists.{groups_before, entries_before}
use Rattle.sbe_decode.proofs.blocks.+blocks.Given as goal

abbrev pub decreases-read_groups : goal.decreases-read_groups
decreases-read_groups l = 4 * weight_of (plans_of l.plans.now) + 1

abbrev pub decreases-read_group : goal.decreases-read_group
decreases-read_group l = 4 * weight_of l.plan.now.block.groups + 4

abbrev pub decreases-read_entries : goal.decreases-read_entries
decreases-read_entries l = 4 * weight_of l.plan.now.groups + 3

abbrev pub decreases-read_block : goal.decreases-read_block
decreases-read_block l = 4 * weight_of l.plan.now.groups + 2

-- what is read, in front of what is left, is all
abbrev pub invariant-read_groups-loop-plan : goal.invariant-read_groups-loop-plan
invariant-read_groups-loop-plan l =
    groups_before l.groups.items (read_groups l.reading.order l.reading.version l.reading.total (plans_of (drop l.plan-index l.plans)) l.left) ≡ read_groups l.reading.order l.reading.version l.reading.total (plans_of l.plans) l.fn.left

abbrev pub invariant-read_entries-loop : goal.invariant-read_entries-loop
invariant-read_entries-loop l =
    entries_before l.entries.items (repeated (l.dimension.count - l.counter) (read_parts l.reading.order l.reading.version l.reading.total l.dimension.size l.plan) l.left) ≡ repeated l.dimension.count (read_parts l.reading.order l.reading.version l.reading.total l.dimension.size l.plan) l.fn.left
