use Rattle.std.proofs.Common.{◌≡◌, ◌++◌, ◌+◌, ◌*◌, drop}
use Rattle.sbe_value.specs.Views.{groups_of, blocks_of}
use Rattle.sbe_layout.specs.Trees.{weight_of}
use Rattle.sbe_layout.specs.Views.{head_of, plans_of}
use Rattle.sbe_text.specs.Written.{group_lines, entry_lines}
use Rattle.sbe_text.proofs.print.+blocks.Given as goal

abbrev pub decreases-write_groups : goal.decreases-write_groups
decreases-write_groups l = 3 * weight_of (plans_of l.plans.now)

abbrev pub decreases-write_entries : goal.decreases-write_entries
decreases-write_entries l = 3 * weight_of l.g.now.block.groups + 2

abbrev pub decreases-write_block : goal.decreases-write_block
decreases-write_block l = 3 * weight_of l.plan.now.groups + 1

-- what is written, followed by the lines of the groups that are left, is all
abbrev pub invariant-write_groups-loop-g : goal.invariant-write_groups-loop-g
invariant-write_groups-loop-g l =
    l.lines.items ++ group_lines l.listings l.before (groups_of l.left) (plans_of (drop l.g-index l.plans)) ≡ l.initial.lines.items ++ group_lines l.listings l.before (groups_of l.groups) (plans_of l.plans)

-- what is written, followed by the lines of the entries that are left, is all
abbrev pub invariant-write_entries-loop-at : goal.invariant-write_entries-loop-at
invariant-write_entries-loop-at l =
    l.lines.items ++ entry_lines l.listings l.before l.at (blocks_of (drop l.at l.block-items)) (head_of l.g) l.g.block.groups ≡ l.initial.lines.items ++ entry_lines l.listings l.before 0 (blocks_of l.block-items) (head_of l.g) l.g.block.groups
