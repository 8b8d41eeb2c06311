use Rattle.drain_laws.proofs.Begun.{idle_within}
use Rattle.drain_laws.proofs.beginning.idle_within.Goals as goal

pub returns : goal.returns
returns c = record { law = idle_within }
