use Rattle.drain_ends.proofs.Agreed.{agreed_holds}
use Rattle.drain_ends.proofs.agreeing.agreed_holds.Goals as goal

pub returns : goal.returns
returns c = record { law = agreed_holds }
