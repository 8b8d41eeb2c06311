use Rattle.session_model.proofs.Truth.{rising_goes_on}
use Rattle.session_model.proofs.laws.rising_goes_on.Goals as goal

pub returns : goal.returns
returns c = record { law = rising_goes_on }
