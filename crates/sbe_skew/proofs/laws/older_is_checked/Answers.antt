use Rattle.sbe_skew.proofs.KeptChecked.{projection_checked}
use Rattle.sbe_skew.proofs.laws.older_is_checked.Goals as goal

pub returns : goal.returns
returns c = record { law = projection_checked }
