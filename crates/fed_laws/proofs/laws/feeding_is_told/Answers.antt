-- The law, as it is proved of its definition.
use Rattle.fed_laws.proofs.Told.{feeding_is_told}
use Rattle.fed_laws.proofs.laws.feeding_is_told.Goals as goal

pub returns : goal.returns
returns g c = record { law = feeding_is_told c.args.gate.now }
