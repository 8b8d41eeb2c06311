use Rattle.std.proofs.Common.{◌≡◌, ◌+◌, ◌*◌, drop}
use Rattle.schema_types.specs.Groups.{weight_of}
use Rattle.schema_types.specs.Views.{groups_of}
use Rattle.sbe_schema.specs.Search.{folded}
use Rattle.sbe_schema.specs.Walk.{walk_groups, names_of_groups, ids_of_groups}
use Rattle.sbe_schema.proofs.walk.+blocks.Given as goal

abbrev pub decreases-walk_block : goal.decreases-walk_block
decreases-walk_block l = 3 * weight_of (groups_of l.groups.now) + 2

abbrev pub decreases-walk_groups : goal.decreases-walk_groups
decreases-walk_groups l = 3 * weight_of (groups_of l.groups.now) + 1

abbrev pub decreases-walk_group : goal.decreases-walk_group
decreases-walk_group l = 3 * weight_of l.g.now.groups + 3

-- what is left, from here on, gives what all gives
abbrev pub invariant-walk_groups-loop-at : goal.invariant-walk_groups-loop-at
invariant-walk_groups-loop-at l =
    let schema = l.index.schema.now in
    record {
      fault : folded schema l.state.fault (walk_groups schema.types l.state.parent_path.items l.parent l.names l.state.ids l.least_since l.at (groups_of (drop l.at l.groups))) ≡ folded schema l.fn.state.fault (walk_groups schema.types l.fn.state.parent_path.items l.parent l.fn.names l.fn.state.ids l.parent.since 0 (groups_of l.groups));
      names : names_of_groups l.names (groups_of (drop l.at l.groups)) ≡ names_of_groups l.fn.names (groups_of l.groups);
      ids : ids_of_groups l.state.ids (groups_of (drop l.at l.groups)) ≡ ids_of_groups l.fn.state.ids (groups_of l.groups);
      parent_path : l.state.parent_path.items ≡ l.fn.state.parent_path.items;
    }
