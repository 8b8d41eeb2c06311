use Rattle.std.proofs.Common.{◌≤◌, length, drop}
use Rattle.sbe_schema.specs.Offsets.{size_of_kind}
use Rattle.sbe_schema.specs.Indexed.{Holds}
use Rattle.sbe_schema.proofs.index.sizes_of.Given as goal

abbrev pub invariant-loop-i : goal.invariant-loop-i
invariant-loop-i l = record { within : l.i ≤ length l.types; held : Holds l.map (size_of_kind l.types) (drop l.i l.types) }

abbrev pub decreases-loop-i : goal.decreases-loop-i
decreases-loop-i l = l.i
