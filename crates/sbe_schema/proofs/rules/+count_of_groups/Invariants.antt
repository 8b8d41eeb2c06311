use Rattle.std.proofs.Common.{◌≡◌, ◌≤◌, length, drop}
use Rattle.schema_types.specs.Groups.{weight_of}
use Rattle.schema_types.specs.Views.{groups_of}
use Rattle.sbe_schema.specs.Limits.{count_of_groups}
use Rattle.sbe_schema.proofs.rules.+count_of_groups.Given as goal

abbrev pub invariant-loop-i : goal.invariant-loop-i
invariant-loop-i l = record { within : l.i ≤ length l.groups; counted : l.count ≡ count_of_groups (groups_of (drop l.i l.groups)) }

abbrev pub decreases-loop-i : goal.decreases-loop-i
decreases-loop-i l = l.i

abbrev pub decreases-count_of_groups : goal.decreases-count_of_groups
decreases-count_of_groups l = weight_of (groups_of l.groups.now)
