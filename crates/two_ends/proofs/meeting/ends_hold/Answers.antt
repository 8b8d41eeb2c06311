use Rattle.two_ends.proofs.Sessions.{ends_hold}
use Rattle.two_ends.proofs.meeting.ends_hold.Goals as goal

pub returns : goal.returns
returns c = record { law = ends_hold }
