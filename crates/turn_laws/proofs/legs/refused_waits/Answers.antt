use Rattle.turn_laws.proofs.Running.{refused_waits}
use Rattle.turn_laws.proofs.legs.refused_waits.Goals as goal

pub returns : goal.returns
returns c = record { law = refused_waits }
