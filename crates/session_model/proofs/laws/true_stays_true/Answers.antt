use Rattle.session_model.proofs.Truth.{true_stays_true}
use Rattle.session_model.proofs.laws.true_stays_true.Goals as goal

pub returns : goal.returns
returns c = record { law = true_stays_true }
