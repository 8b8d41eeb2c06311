use Rattle.flow_window.proofs.Taken.{takes_in_order}
use Rattle.flow_window.proofs.laws.takes_in_order.Goals as goal

pub returns : goal.returns
returns c = record { law = takes_in_order }
