use Rattle.std.proofs.Common.{◌≡◌, length}
use Rattle.text_names.specs.Values.{parts_at, with_choices}
use Rattle.text_names.proofs.names.number_of_choices.Given as goal

abbrev pub decreases-loop-word : goal.decreases-loop-word
decreases-loop-word l = length l.left

abbrev pub invariant-loop-word : goal.invariant-loop-word
invariant-loop-word l = with_choices l.bits (parts_at 124 l.left) l.number ≡ with_choices l.bits (parts_at 124 l.text) 0
