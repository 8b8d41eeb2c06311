use Rattle.std.proofs.Common.{◌≤◌, length, drop}
use Rattle.sbe_layout.specs.Templates.{HasPlaces}
use Rattle.sbe_layout.proofs.messages.places_of.Given as goal

abbrev pub invariant-loop-i : goal.invariant-loop-i
invariant-loop-i l = record { within : l.i ≤ length l.messages; held : HasPlaces l.map l.i (drop l.i l.messages) }

abbrev pub decreases-loop-i : goal.decreases-loop-i
decreases-loop-i l = l.i
