use Rattle.stranger_lives.proofs.Changing.{strangers_change_nothing}
use Rattle.stranger_lives.proofs.lives.strangers_change_nothing.Goals as goal

pub returns : goal.returns
returns g c = record { law = strangers_change_nothing g.O.Journal.tells c.args.inbox.now }
