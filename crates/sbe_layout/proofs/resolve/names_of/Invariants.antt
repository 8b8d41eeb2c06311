use Rattle.std.proofs.Common.{◌≤◌, length, drop}
use Rattle.sbe_layout.specs.Context.{Resolves}
use Rattle.sbe_layout.proofs.resolve.names_of.Given as goal

abbrev pub invariant-loop-i : goal.invariant-loop-i
invariant-loop-i l = record { within : l.i ≤ length l.types; held : Resolves l.map l.i (drop l.i l.types) }

abbrev pub decreases-loop-i : goal.decreases-loop-i
decreases-loop-i l = l.i
