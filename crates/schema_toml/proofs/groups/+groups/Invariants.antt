use Rattle.std.proofs.Common.{◌≡◌, ◌+◌, ◌*◌, Ok, drop, length}
use Rattle.toml.specs.Data.{depth}
use Rattle.toml.specs.View.{view, items_view}
use Rattle.toml_walk.specs.Reading.{◌>>=◌}
use Rattle.schema_toml.specs.Messages.{groups_from, groups_of}
use Rattle.schema_toml.proofs.Nested.{behind}
use Rattle.schema_toml.proofs.groups.+groups.Given as goal

abbrev pub decreases-groups_or_none : goal.decreases-groups_or_none
decreases-groups_or_none l = 4 * depth (view l.keys.now)

abbrev pub decreases-read_groups : goal.decreases-read_groups
decreases-read_groups l = 4 * depth (view l.value.now)

abbrev pub decreases-read_group_at : goal.decreases-read_group_at
decreases-read_group_at l = 4 * depth (view l.value.now) + 3

abbrev pub decreases-read_group : goal.decreases-read_group
decreases-read_group l = 4 * depth (view l.keys.now) + 2

abbrev pub decreases-read_inside : goal.decreases-read_inside
decreases-read_inside l = 4 * depth (view l.keys.now) + 1

-- the groups read, and those that are left, are all
abbrev pub invariant-read_groups-loop-value : goal.invariant-read_groups-loop-value
invariant-read_groups-loop-value l =
    (length l.groups.items ≡ l.value-index)
    × (groups_of l.parent.since (view l.fn.value) ≡ (groups_from l.parent.since l.value-index (items_view (drop l.value-index l.value-items)) >>= (λ rest. Ok (behind l.groups.items rest))))
