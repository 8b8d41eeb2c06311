use Rattle.std.proofs.Common.{◌≡◌, length}
use Rattle.text_names.specs.Bare.{unended}
use Rattle.text_names.proofs.bare.unended.Given as goal

abbrev pub decreases-loop-last : goal.decreases-loop-last
decreases-loop-last l = length l.left

abbrev pub invariant-loop-last : goal.invariant-loop-last
invariant-loop-last l = unended l.left ≡ unended l.initial.left
