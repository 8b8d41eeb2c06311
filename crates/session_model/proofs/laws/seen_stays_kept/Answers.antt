use Rattle.session_model.proofs.Kept.{seen_stays_kept}
use Rattle.session_model.proofs.laws.seen_stays_kept.Goals as goal

pub returns : goal.returns
returns c = record { law = seen_stays_kept }
