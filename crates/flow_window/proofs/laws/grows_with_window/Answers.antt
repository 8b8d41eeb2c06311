use Rattle.flow_window.proofs.Taken.{grows_with_window}
use Rattle.flow_window.proofs.laws.grows_with_window.Goals as goal

pub returns : goal.returns
returns c = record { law = grows_with_window }
