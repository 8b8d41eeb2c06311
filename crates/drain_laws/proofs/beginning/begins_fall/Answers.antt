use Rattle.drain_laws.proofs.Begun.{begins_fall}
use Rattle.drain_laws.proofs.beginning.begins_fall.Goals as goal

pub returns : goal.returns
returns c = record { law = begins_fall }
