use Rattle.session_model.proofs.Chains.{chained_splits}
use Rattle.session_model.proofs.laws.chained_splits.Goals as goal

pub returns : goal.returns
returns c = record { law = chained_splits }
