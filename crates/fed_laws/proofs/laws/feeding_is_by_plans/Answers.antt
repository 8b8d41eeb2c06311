-- The law, as it is proved of its definition.
use Rattle.fed_laws.proofs.Served.{feeding_is_by_plans}
use Rattle.fed_laws.proofs.laws.feeding_is_by_plans.Goals as goal

pub returns : goal.returns
returns g c = record { law = feeding_is_by_plans g.N.Link.Link c.args.gate.now c.args.inbox.now }
