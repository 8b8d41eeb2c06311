use Rattle.life_laws.proofs.Opened.{served_is_a_loop_life}
use Rattle.life_laws.proofs.lives.served_is_a_loop_life.Goals as goal

pub returns : goal.returns
returns g c = record { law = served_is_a_loop_life g.O.Journal.tells c.args.inbox.now }
