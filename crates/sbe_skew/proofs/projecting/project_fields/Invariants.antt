use Rattle.std.proofs.Common.{◌≡◌, ◌++◌, drop}
use Rattle.sbe_skew.specs.Projected.{projected_fields}
use Rattle.sbe_skew.proofs.projecting.project_fields.Given as goal

-- what is made, followed by what is left, is all
abbrev pub invariant-loop-f : goal.invariant-loop-f
invariant-loop-f l = l.older.items ++ projected_fields l.version (drop l.f-index l.fields) ≡ projected_fields l.version l.fields
