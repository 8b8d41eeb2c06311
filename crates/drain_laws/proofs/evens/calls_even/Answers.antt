use Rattle.drain_laws.proofs.Beside.{calls_even}
use Rattle.drain_laws.proofs.evens.calls_even.Goals as goal

pub returns : goal.returns
returns c = record { law = calls_even }
