use Rattle.order_desk.proofs.Shares.{share_goes_on}
use Rattle.order_desk.proofs.laws.share_goes_on.Goals as goal

pub returns : goal.returns
returns c = record { law = share_goes_on }
