use Rattle.two_ends.proofs.Deaf.{nothing_more}
use Rattle.two_ends.proofs.refusing.nothing_more.Goals as goal

pub returns : goal.returns
returns c = record { law = nothing_more }
