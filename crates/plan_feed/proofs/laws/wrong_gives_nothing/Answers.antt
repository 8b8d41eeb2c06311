-- The law, as it is proved of its definition.
use Rattle.plan_feed.proofs.Lines.{wrong_gives_nothing}
use Rattle.plan_feed.proofs.laws.wrong_gives_nothing.Goals as goal

pub returns : goal.returns
returns c = record { law = wrong_gives_nothing }
