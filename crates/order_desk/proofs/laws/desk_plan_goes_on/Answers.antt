use Rattle.order_desk.proofs.Shares.{desk_plan_goes_on}
use Rattle.order_desk.proofs.laws.desk_plan_goes_on.Goals as goal

pub returns : goal.returns
returns c = record { law = desk_plan_goes_on }
