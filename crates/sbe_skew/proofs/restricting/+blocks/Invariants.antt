use Rattle.std.proofs.Common.{◌≡◌, ◌++◌, ◌+◌, ◌*◌, drop}
use Rattle.sbe_value.specs.Views.{blocks_of}
use Rattle.sbe_layout.specs.Trees.{weight_of}
use Rattle.sbe_layout.specs.Views.{plans_of}
use Rattle.sbe_skew.specs.Restricted.{kept_entries, list_of_blocks}
use Rattle.sbe_skew.proofs.restricting.+blocks.Given as goal

abbrev pub decreases-keep_groups : goal.decreases-keep_groups
decreases-keep_groups l = 4 * weight_of (plans_of l.plans.now) + 1

abbrev pub decreases-keep_group : goal.decreases-keep_group
decreases-keep_group l = 4 * weight_of l.plan.now.groups + 4

abbrev pub decreases-keep_entries : goal.decreases-keep_entries
decreases-keep_entries l = 4 * weight_of l.plan.now.groups + 3

abbrev pub decreases-keep_block : goal.decreases-keep_block
decreases-keep_block l = 4 * weight_of l.plan.now.groups + 2

-- what is kept, followed by what is kept of the entries that are left, is all
abbrev pub invariant-keep_entries-loop-entry : goal.invariant-keep_entries-loop-entry
invariant-keep_entries-loop-entry l =
    l.kept.items ++ list_of_blocks (kept_entries l.version l.plan.items l.plan.groups l.plan.vars (blocks_of (drop l.entry-index l.entries))) ≡ list_of_blocks (kept_entries l.version l.plan.items l.plan.groups l.plan.vars (blocks_of l.entries))
