use Rattle.std.proofs.Common.{◌≡◌, ℕ, List, drop}
use Rattle.sbe_layout.specs.Views.{plans_of}
use Rattle.text_names.specs.Paths.{groups_meaning}
use Rattle.text_names.proofs.path.group_named.Given as goal

abbrev pub invariant-loop-group : goal.invariant-loop-group
invariant-loop-group l = (after : List ℕ) → groups_meaning (plans_of (drop l.group-index l.groups)) l.name after ≡ groups_meaning (plans_of l.groups) l.name after
