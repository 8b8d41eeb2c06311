use Rattle.drain_laws.proofs.Called.{calls_fall}
use Rattle.drain_laws.proofs.calls.calls_fall.Goals as goal

pub returns : goal.returns
returns c = record { law = calls_fall }
