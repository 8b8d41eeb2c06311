use Rattle.session_model.proofs.Unsequenced.{unsequenced_keeps_rising}
use Rattle.session_model.proofs.laws.unsequenced_keeps_rising.Goals as goal

pub returns : goal.returns
returns c = record { law = unsequenced_keeps_rising }
