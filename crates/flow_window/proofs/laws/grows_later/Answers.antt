use Rattle.flow_window.proofs.Delivered.{grows_later}
use Rattle.flow_window.proofs.laws.grows_later.Goals as goal

pub returns : goal.returns
returns c = record { law = grows_later }
