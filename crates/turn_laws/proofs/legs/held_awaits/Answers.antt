use Rattle.turn_laws.proofs.Running.{held_awaits}
use Rattle.turn_laws.proofs.legs.held_awaits.Goals as goal

pub returns : goal.returns
returns c = record { law = held_awaits }
