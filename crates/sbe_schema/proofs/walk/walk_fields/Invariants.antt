use Rattle.std.proofs.Common.{◌≡◌, drop}
use Rattle.sbe_schema.specs.Search.{folded}
use Rattle.sbe_schema.specs.Walk.{walk_fields, names_of_fields, ids_of_fields}
use Rattle.sbe_schema.proofs.walk.walk_fields.Given as goal

-- what is left, from here on, gives what all gives
abbrev pub invariant-loop-at : goal.invariant-loop-at
invariant-loop-at l =
    let schema = l.index.schema.now in
    record {
      fault : folded schema l.state.fault (walk_fields schema.types l.state.parent_path.items l.names l.state.ids l.least_since l.end l.at (drop l.at l.fields)) ≡ folded schema l.fn.state.fault (walk_fields schema.types l.fn.state.parent_path.items l.fn.names l.fn.state.ids l.fn.since 0 0 l.fields);
      names : names_of_fields l.names (drop l.at l.fields) ≡ names_of_fields l.fn.names l.fields;
      ids : ids_of_fields l.state.ids (drop l.at l.fields) ≡ ids_of_fields l.fn.state.ids l.fields;
      parent_path : l.state.parent_path.items ≡ l.fn.state.parent_path.items;
    }
