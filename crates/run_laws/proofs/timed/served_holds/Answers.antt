use Rattle.run_laws.proofs.Serving.{served_holds}
use Rattle.run_laws.proofs.timed.served_holds.Goals as goal

pub returns : goal.returns
returns g c = record { law = served_holds g.O.Journal.tells c.args.inbox.now }
