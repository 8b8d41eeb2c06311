use Rattle.turn_laws.proofs.Tailing.{tried_adds}
use Rattle.turn_laws.proofs.legs.tried_adds.Goals as goal

pub returns : goal.returns
returns c = record { law = tried_adds }
