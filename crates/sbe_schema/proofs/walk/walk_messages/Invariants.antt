use Rattle.std.proofs.Common.{◌≡◌, [], drop}
use Rattle.std.specs.FinSet as set
use Rattle.sbe_schema.specs.Search.{folded}
use Rattle.sbe_schema.specs.Walk.{walk_messages}
use Rattle.sbe_schema.proofs.walk.walk_messages.Given as goal

-- what is left, from here on, gives what all gives
abbrev pub invariant-loop-at : goal.invariant-loop-at
invariant-loop-at l =
    let schema = l.index.schema.now in
    record {
      fault : folded schema l.state.fault (walk_messages schema.types l.names l.ids l.at (drop l.at l.messages)) ≡ folded schema l.fn.state.fault (walk_messages schema.types set.empty set.empty 0 l.messages);
      parent_path : l.state.parent_path.items ≡ [];
    }
