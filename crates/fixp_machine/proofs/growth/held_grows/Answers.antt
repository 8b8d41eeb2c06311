use Rattle.fixp_machine.proofs.HeldGrowth.{held_grows}
use Rattle.fixp_machine.proofs.growth.held_grows.Goals as goal

pub returns : goal.returns
returns c = record { law = held_grows }
