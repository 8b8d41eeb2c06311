use Rattle.two_ends.proofs.Driven.{stories_hold}
use Rattle.two_ends.proofs.driving.stories_hold.Goals as goal

pub returns : goal.returns
returns c = record { law = stories_hold }
