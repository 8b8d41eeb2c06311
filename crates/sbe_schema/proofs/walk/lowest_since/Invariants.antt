use Rattle.std.proofs.Common.{◌≡◌, ◌≤◌, length, drop}
use Rattle.sbe_schema.specs.Walk.{lowest_since}
use Rattle.sbe_schema.proofs.walk.lowest_since.Given as goal

abbrev pub invariant-loop-i : goal.invariant-loop-i
invariant-loop-i l = record { within : l.i ≤ length l.vars; least : l.lowest ≡ lowest_since (drop l.i l.vars) }

abbrev pub decreases-loop-i : goal.decreases-loop-i
decreases-loop-i l = l.i
