use Rattle.fixp_machine.proofs.Holding.{holding_goes_on}
use Rattle.fixp_machine.proofs.sound.holding_goes_on.Goals as goal

pub returns : goal.returns
returns c = record { law = holding_goes_on }
