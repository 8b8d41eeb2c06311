use Rattle.two_ends.proofs.Sessions.{session_of_ends}
use Rattle.two_ends.proofs.meeting.session_of_ends.Goals as goal

pub returns : goal.returns
returns c = record { law = session_of_ends }
