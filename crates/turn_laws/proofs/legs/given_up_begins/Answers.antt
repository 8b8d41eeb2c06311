use Rattle.turn_laws.proofs.Sent.{given_up_begins}
use Rattle.turn_laws.proofs.legs.given_up_begins.Goals as goal

pub returns : goal.returns
returns c = record { law = given_up_begins }
