use Rattle.std.proofs.Common.{◌≡◌, ◌++◌, drop}
use Rattle.sbe_skew.specs.Projected.{projected_messages}
use Rattle.sbe_skew.proofs.projecting.project_schema.Given as goal

-- what is made, followed by what is left, is all
abbrev pub invariant-loop-m : goal.invariant-loop-m
invariant-loop-m l = l.messages.items ++ projected_messages l.version (drop l.m-index l.m-items) ≡ projected_messages l.version l.m-items
