use Rattle.life_laws.proofs.Loops.{served_keeps}
use Rattle.life_laws.proofs.lives.served_keeps.Goals as goal

pub returns : goal.returns
returns g c = record { law = served_keeps g.O.Journal.tells c.args.inbox.now }
