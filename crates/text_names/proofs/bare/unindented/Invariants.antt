use Rattle.std.proofs.Common.{◌≡◌, length}
use Rattle.text_names.specs.Bare.{unindented}
use Rattle.text_names.proofs.bare.unindented.Given as goal

abbrev pub decreases-loop-left : goal.decreases-loop-left
decreases-loop-left l = length l.left

abbrev pub invariant-loop-left : goal.invariant-loop-left
invariant-loop-left l = unindented l.left ≡ unindented l.initial.left
