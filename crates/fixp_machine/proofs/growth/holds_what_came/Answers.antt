use Rattle.fixp_machine.proofs.HeldGrowth.{holds_what_came}
use Rattle.fixp_machine.proofs.growth.holds_what_came.Goals as goal

pub returns : goal.returns
returns c = record { law = holds_what_came }
