use Rattle.session_model.proofs.Counts.{counts_stand_once}
use Rattle.session_model.proofs.laws.counts_stand_once.Goals as goal

pub returns : goal.returns
returns c = record { law = counts_stand_once }
