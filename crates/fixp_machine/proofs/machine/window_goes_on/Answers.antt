use Rattle.fixp_machine.proofs.Windowing.{window_goes_on}
use Rattle.fixp_machine.proofs.machine.window_goes_on.Goals as goal

pub returns : goal.returns
returns c = record { law = window_goes_on }
