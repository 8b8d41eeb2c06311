use Rattle.gate_turn.proofs.Placed.{none_in_places}
use Rattle.gate_turn.proofs.passes.Passes.new.Goals as goal

pub invariant_of-result : goal.invariant_of-result
invariant_of-result g c = record { in_place = none_in_places 18 }
