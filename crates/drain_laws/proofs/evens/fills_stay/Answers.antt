use Rattle.drain_laws.proofs.Evened.{fills_stay}
use Rattle.drain_laws.proofs.evens.fills_stay.Goals as goal

pub returns : goal.returns
returns c = record { law = fills_stay }
