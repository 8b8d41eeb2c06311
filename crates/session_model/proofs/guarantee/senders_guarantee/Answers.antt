use Rattle.session_model.proofs.Guarantees.{senders_guarantee}
use Rattle.session_model.proofs.guarantee.senders_guarantee.Goals as goal

pub returns : goal.returns
returns c = record { law = senders_guarantee }
