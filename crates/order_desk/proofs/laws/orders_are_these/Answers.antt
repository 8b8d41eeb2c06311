use Rattle.order_desk.proofs.Whole.{orders_are_these}
use Rattle.order_desk.proofs.laws.orders_are_these.Goals as goal

pub returns : goal.returns
returns c = record { law = orders_are_these }
