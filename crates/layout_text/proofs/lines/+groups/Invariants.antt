use Rattle.std.proofs.Common.{◌≡◌, ◌++◌, ◌+◌, ◌*◌, drop}
use Rattle.sbe_layout.specs.Trees.{weight_of}
use Rattle.sbe_layout.specs.Views.{plans_of}
use Rattle.layout_text.specs.Lines.{lines_of_groups}
use Rattle.layout_text.proofs.lines.+groups.Given as goal

abbrev pub decreases-write_groups : goal.decreases-write_groups
decreases-write_groups l = 2 * weight_of (plans_of l.groups.now)

abbrev pub decreases-write_entries : goal.decreases-write_entries
decreases-write_entries l = 2 * weight_of l.g.now.block.groups + 1

-- what is written, followed by the lines of the groups that are left, is all
abbrev pub invariant-write_groups-loop-g : goal.invariant-write_groups-loop-g
invariant-write_groups-loop-g l =
    l.lines ++ lines_of_groups l.before (plans_of (drop l.g-index l.groups)) ≡ l.initial.lines ++ lines_of_groups l.before (plans_of l.groups)
