use Rattle.std.proofs.Common.{◌≡◌, ◌++◌, ◌+◌, ◌*◌, drop}
use Rattle.sbe_value.specs.Views.{blocks_of}
use Rattle.sbe_layout.specs.Trees.{weight_of}
use Rattle.sbe_layout.specs.Views.{head_of, plans_of}
use Rattle.sbe_grammar.specs.Canonical.{entries_bytes}
use Rattle.sbe_encode.specs.Faults.{entries_fault}
use Rattle.sbe_encode.proofs.blocks.+blocks.Given as goal

abbrev pub decreases-write_groups : goal.decreases-write_groups
decreases-write_groups l = 5 * weight_of (plans_of l.plans.now) + 1

abbrev pub decreases-write_group : goal.decreases-write_group
decreases-write_group l = 5 * weight_of l.plan.now.block.groups + 5

abbrev pub decreases-write_entries : goal.decreases-write_entries
decreases-write_entries l = 5 * weight_of l.plan.now.block.groups + 4

abbrev pub decreases-write_entry : goal.decreases-write_entry
decreases-write_entry l = 5 * weight_of l.plan.now.block.groups + 3

abbrev pub decreases-write_block : goal.decreases-write_block
decreases-write_block l = 5 * weight_of l.plan.now.groups + 2

-- what is written, followed by the entries that are left, is all; so is the first fault
abbrev pub invariant-write_entries-loop-at : goal.invariant-write_entries-loop-at
invariant-write_entries-loop-at l = record {
  written : l.out.items ++ entries_bytes l.order (head_of l.plan) l.plan.block.groups (blocks_of (drop l.at l.entries)) ≡ l.fn.out.items ++ entries_bytes l.order (head_of l.plan) l.plan.block.groups (blocks_of l.entries);
  told : entries_fault l.listings (head_of l.plan) l.plan.block.groups l.at (blocks_of (drop l.at l.entries)) ≡ entries_fault l.listings (head_of l.plan) l.plan.block.groups 0 (blocks_of l.entries);
}
