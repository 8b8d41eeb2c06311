use Rattle.drain_laws.proofs.Evened.{replies_even}
use Rattle.drain_laws.proofs.evens.replies_even.Goals as goal

pub returns : goal.returns
returns c = record { law = replies_even }
