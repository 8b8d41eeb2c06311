use Rattle.std.proofs.Common.{◌≡◌, ◌∷◌, [], ◌++◌, ◌+◌, ◌*◌, ◌-◌, drop, take}
use Rattle.sbe_layout.specs.Trees.{weight_of}
use Rattle.sbe_layout.specs.Views.{head_of, plans_of}
use Rattle.text_words.specs.Lines.{lines_in}
use Rattle.sbe_text.specs.Reading.{read_groups, repeated, entry_at}
use Rattle.sbe_text.proofs.Made.{groups_before, entries_before}
use Rattle.sbe_text.proofs.parse.+groups.Given as goal

abbrev pub decreases-read_groups : goal.decreases-read_groups
decreases-read_groups l = 4 * weight_of (plans_of l.plans.now) + 1

abbrev pub decreases-read_group : goal.decreases-read_group
decreases-read_group l = 4 * weight_of l.plan.now.block.groups + 4

abbrev pub decreases-read_entries : goal.decreases-read_entries
decreases-read_entries l = 4 * weight_of l.plan.now.block.groups + 3

abbrev pub decreases-read_block : goal.decreases-read_block
decreases-read_block l = 4 * weight_of l.plan.now.groups + 2

-- what is read, in front of what is left, is all
abbrev pub invariant-read_groups-loop-plan : goal.invariant-read_groups-loop-plan
invariant-read_groups-loop-plan l =
    groups_before l.groups.items (read_groups l.before (plans_of (drop l.plan-index l.plans)) (lines_in l.left)) ≡ read_groups l.before (plans_of l.plans) (lines_in l.initial.left)

abbrev pub invariant-read_entries-loop-at : goal.invariant-read_entries-loop-at
invariant-read_entries-loop-at l = record {
  read : entries_before l.entries.items (repeated (l.count - l.at) l.at (entry_at l.before (head_of l.plan) (λ path. read_groups path l.plan.block.groups)) (lines_in l.left)) ≡ repeated l.count 0 (entry_at l.before (head_of l.plan) (λ path. read_groups path l.plan.block.groups)) (lines_in l.initial.left);
  path : take l.opened l.inner.items ≡ l.before ++ l.plan.name ++ 91 ∷ [];
}
