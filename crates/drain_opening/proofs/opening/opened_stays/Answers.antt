use Rattle.drain_opening.proofs.Opened.{opened_stays}
use Rattle.drain_opening.proofs.opening.opened_stays.Goals as goal

pub returns : goal.returns
returns c = record { law = opened_stays }
