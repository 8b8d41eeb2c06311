use Rattle.two_ends.proofs.Sessions.{links_hold}
use Rattle.two_ends.proofs.meeting.links_hold.Goals as goal

pub returns : goal.returns
returns c = record { law = links_hold }
