use Rattle.drain_rounds.proofs.Begun.{begins_show}
use Rattle.drain_rounds.proofs.starting.begins_show.Goals as goal

pub returns : goal.returns
returns c = record { law = begins_show }
