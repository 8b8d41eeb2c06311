use Rattle.std.proofs.Common.{◌≤◌, length, drop}
use Rattle.sbe_schema.specs.Meanings.{meaning_of_kind}
use Rattle.sbe_schema.specs.Indexed.{Holds}
use Rattle.sbe_schema.proofs.index.meanings_of.Given as goal

abbrev pub invariant-loop-i : goal.invariant-loop-i
invariant-loop-i l = record { within : l.i ≤ length l.types; held : Holds l.map meaning_of_kind (drop l.i l.types) }

abbrev pub decreases-loop-i : goal.decreases-loop-i
decreases-loop-i l = l.i
