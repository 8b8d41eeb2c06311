use Rattle.life_laws.proofs.Behind.{served_is_turned}
use Rattle.life_laws.proofs.lives.served_is_turned.Goals as goal

pub returns : goal.returns
returns g c = record { law = served_is_turned g.O.Journal.tells c.args.inbox.now }
