use Rattle.std.proofs.Common.{◌≡◌, ◌+◌, ◌*◌, ◌-◌, drop}
use Rattle.sbe_layout.specs.Trees.{weight_of}
use Rattle.sbe_layout.specs.Views.{plans_of}
use Rattle.sbe_grammar.specs.Reading.{read_groups, repeated}
use Rattle.sbe_decode.specs.Walks.{behind, read_parts}
use Rattle.sbe_decode.proofs.skip.+skips.Given as goal

abbrev pub decreases-skip_groups : goal.decreases-skip_groups
decreases-skip_groups l = 4 * weight_of (plans_of l.plans.now) + 1

abbrev pub decreases-skip_group : goal.decreases-skip_group
decreases-skip_group l = 4 * weight_of l.plan.now.block.groups + 4

abbrev pub decreases-skip_entries : goal.decreases-skip_entries
decreases-skip_entries l = 4 * weight_of l.plan.now.groups + 3

abbrev pub decreases-skip_block : goal.decreases-skip_block
decreases-skip_block l = 4 * weight_of l.plan.now.groups + 2

-- behind what is left is what is behind all
abbrev pub invariant-skip_groups-loop-plan : goal.invariant-skip_groups-loop-plan
invariant-skip_groups-loop-plan l =
    behind (read_groups l.reading.order l.reading.version l.reading.total (plans_of (drop l.plan-index l.plans)) l.left) ≡ behind (read_groups l.reading.order l.reading.version l.reading.total (plans_of l.plans) l.fn.left)

abbrev pub invariant-skip_entries-loop : goal.invariant-skip_entries-loop
invariant-skip_entries-loop l =
    behind (repeated (l.dimension.count - l.counter) (read_parts l.reading.order l.reading.version l.reading.total l.dimension.size l.plan) l.left) ≡ behind (repeated l.dimension.count (read_parts l.reading.order l.reading.version l.reading.total l.dimension.size l.plan) l.fn.left)
