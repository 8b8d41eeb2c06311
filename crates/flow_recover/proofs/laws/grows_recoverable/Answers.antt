use Rattle.flow_recover.proofs.Chains.{grows_recoverable}
use Rattle.flow_recover.proofs.laws.grows_recoverable.Goals as goal

pub returns : goal.returns
returns c = record { law = grows_recoverable }
