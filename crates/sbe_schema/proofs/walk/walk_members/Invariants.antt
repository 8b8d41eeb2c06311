use Rattle.std.proofs.Common.{◌≡◌, drop}
use Rattle.std.specs.FinSet as set
use Rattle.sbe_schema.specs.Search.{folded}
use Rattle.sbe_schema.specs.Walk.{walk_members}
use Rattle.sbe_schema.proofs.walk.walk_members.Given as goal

-- what is left, from here on, gives what all gives
abbrev pub invariant-loop-at : goal.invariant-loop-at
invariant-loop-at l =
    let schema = l.index.schema.now in
    record {
      fault : folded schema l.state.fault (walk_members schema.types l.state.parent_path.items l.names l.end l.at (drop l.at l.members)) ≡ folded schema l.fn.state.fault (walk_members schema.types l.fn.state.parent_path.items set.empty 0 0 l.members);
      parent_path : l.state.parent_path.items ≡ l.fn.state.parent_path.items;
    }
