use Rattle.turn_laws.proofs.Given.{given_came}
use Rattle.turn_laws.proofs.legs.given_came.Goals as goal

pub returns : goal.returns
returns c = record { law = given_came }
