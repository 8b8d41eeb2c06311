use Rattle.session_model.proofs.Truth.{rising_stays_rising}
use Rattle.session_model.proofs.laws.rising_stays_rising.Goals as goal

pub returns : goal.returns
returns c = record { law = rising_stays_rising }
