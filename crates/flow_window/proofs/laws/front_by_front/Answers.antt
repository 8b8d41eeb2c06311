use Rattle.flow_window.proofs.Taken.{front_by_front}
use Rattle.flow_window.proofs.laws.front_by_front.Goals as goal

pub returns : goal.returns
returns c = record { law = front_by_front }
