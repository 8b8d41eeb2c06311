use Rattle.flow_window.proofs.Delivered.{grows_recoverable}
use Rattle.flow_window.proofs.laws.grows_recoverable.Goals as goal

pub returns : goal.returns
returns c = record { law = grows_recoverable }
