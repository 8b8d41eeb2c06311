use Rattle.session_model.proofs.Through.{nothing_held}
use Rattle.session_model.proofs.laws.nothing_held.Goals as goal

pub returns : goal.returns
returns c = record { law = nothing_held }
