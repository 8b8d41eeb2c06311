use Rattle.two_ends.proofs.Sessions.{ends_go_on}
use Rattle.two_ends.proofs.GoingOn.{holding_goes_on}
use Rattle.two_ends.proofs.meeting.ends_go_on.Goals as goal

pub returns : goal.returns
returns c = record { law = ends_go_on; holding = holding_goes_on }
