use Rattle.std.proofs.Common.{◌≡◌, [], rules}
use Rattle.std.specs.FinSet as set
use Rattle.sbe_schema.specs.Places.{whole}
use Rattle.sbe_schema.specs.Walk.{walk_types, walk_messages}
use Rattle.sbe_schema.specs.Search.{rule_of, found_at, folded}
use Rattle.sbe_schema.proofs.Fold.{found_by_walk}
use Rattle.sbe_schema.proofs.checking.find_fault.Goals as goal

pub returns : goal.returns
returns c =
    let s = c.args.schema.now in
    let best : c.fault_of_whole-fault.result ≡ found_at (rule_of s set.empty set.empty whole) [] = search rules in
    let end : c.walk_messages.new.state.fault ≡ folded s (folded s c.fault_of_whole-fault.result (walk_types s.types set.empty 0 s.types)) (walk_messages s.types set.empty set.empty 0 s.messages) = search rules in
    found_by_walk s _ _ best end
