use Rattle.std.proofs.Common.{◌≡◌, drop}
use Rattle.std.specs.FinSet as set
use Rattle.sbe_schema.specs.Search.{folded}
use Rattle.sbe_schema.specs.Walk.{walk_bits}
use Rattle.sbe_schema.proofs.walk.walk_bits.Given as goal

-- what is left, from here on, gives what all gives
abbrev pub invariant-loop-at : goal.invariant-loop-at
invariant-loop-at l =
    let schema = l.index.schema.now in
    record {
      fault : folded schema l.state.fault (walk_bits l.state.parent_path.items l.prim l.names l.numbers l.at (drop l.at l.bits)) ≡ folded schema l.fn.state.fault (walk_bits l.fn.state.parent_path.items l.prim set.empty set.empty 0 l.bits);
      parent_path : l.state.parent_path.items ≡ l.fn.state.parent_path.items;
    }
