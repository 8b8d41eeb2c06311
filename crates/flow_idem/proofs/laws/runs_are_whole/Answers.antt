use Rattle.flow_idem.proofs.Told.{runs_are_whole}
use Rattle.flow_idem.proofs.laws.runs_are_whole.Goals as goal

pub returns : goal.returns
returns c = record { law = runs_are_whole }
