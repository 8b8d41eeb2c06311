use Rattle.flow_window.proofs.Staying.{stays_in_reach}
use Rattle.flow_window.proofs.laws.stays_in_reach.Goals as goal

pub returns : goal.returns
returns c = record { law = stays_in_reach }
