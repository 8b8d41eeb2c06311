use Rattle.order_desk.proofs.Ranged.{reports_in_range}
use Rattle.order_desk.proofs.laws.reports_in_range.Goals as goal

pub returns : goal.returns
returns c = record { law = reports_in_range }
