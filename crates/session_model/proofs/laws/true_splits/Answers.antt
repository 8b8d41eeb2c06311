use Rattle.session_model.proofs.Truth.{true_splits}
use Rattle.session_model.proofs.laws.true_splits.Goals as goal

pub returns : goal.returns
returns c = record { law = true_splits }
