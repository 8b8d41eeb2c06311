use Rattle.std.proofs.Common.{◌≡◌, ◌++◌, drop}
use Rattle.sbe_skew.specs.Projected.{projected_data}
use Rattle.sbe_skew.proofs.projecting.project_data.Given as goal

-- what is made, followed by what is left, is all
abbrev pub invariant-loop-d : goal.invariant-loop-d
invariant-loop-d l = l.older.items ++ projected_data l.version (drop l.d-index l.vars) ≡ projected_data l.version l.vars
