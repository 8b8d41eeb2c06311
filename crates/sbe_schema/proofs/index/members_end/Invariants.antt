use Rattle.std.proofs.Common.{◌≡◌, drop}
use Rattle.sbe_schema.specs.Offsets.{members_end}
use Rattle.sbe_schema.proofs.index.members_end.Given as goal

abbrev pub invariant-loop-member : goal.invariant-loop-member
invariant-loop-member l = members_end l.types l.end (drop l.member-index l.members) ≡ members_end l.types 0 l.members
