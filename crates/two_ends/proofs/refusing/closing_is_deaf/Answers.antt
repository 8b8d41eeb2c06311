use Rattle.two_ends.proofs.Refused.{closing_is_deaf}
use Rattle.two_ends.proofs.refusing.closing_is_deaf.Goals as goal

pub returns : goal.returns
returns c = record { law = closing_is_deaf }
