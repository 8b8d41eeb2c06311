-- The law, as it is proved of its definition.
use Rattle.plan_feed.proofs.Lines.{givers_are_short}
use Rattle.plan_feed.proofs.laws.givers_are_short.Goals as goal

pub returns : goal.returns
returns c = record { law = givers_are_short }
