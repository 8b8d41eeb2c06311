use Rattle.session_model.proofs.Guarantees.{session_turns_round}
use Rattle.session_model.proofs.guarantee.session_turns_round.Goals as goal

pub returns : goal.returns
returns c = record { law = session_turns_round }
