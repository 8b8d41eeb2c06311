use Rattle.std.proofs.Common.{◌≡◌, drop}
use Rattle.sbe_schema.specs.Search.{folded}
use Rattle.sbe_schema.specs.Walk.{walk_data, ids_of_data}
use Rattle.sbe_schema.proofs.walk.walk_data.Given as goal

-- what is left, from here on, gives what all gives
abbrev pub invariant-loop-at : goal.invariant-loop-at
invariant-loop-at l =
    let schema = l.index.schema.now in
    record {
      fault : folded schema l.state.fault (walk_data l.state.parent_path.items l.parent l.names l.state.ids l.least_since l.at (drop l.at l.vars)) ≡ folded schema l.fn.state.fault (walk_data l.fn.state.parent_path.items l.parent l.fn.names l.fn.state.ids l.parent.since 0 l.vars);
      ids : ids_of_data l.state.ids (drop l.at l.vars) ≡ ids_of_data l.fn.state.ids l.vars;
      parent_path : l.state.parent_path.items ≡ l.fn.state.parent_path.items;
    }
