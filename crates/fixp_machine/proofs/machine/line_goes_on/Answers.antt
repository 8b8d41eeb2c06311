use Rattle.fixp_machine.proofs.Lining.{line_goes_on}
use Rattle.fixp_machine.proofs.machine.line_goes_on.Goals as goal

pub returns : goal.returns
returns c = record { law = line_goes_on }
