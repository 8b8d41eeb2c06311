use Rattle.two_ends.proofs.Ends.{loops_are_a_session}
use Rattle.two_ends.proofs.loops.loops_are_a_session.Goals as goal

pub returns : goal.returns
returns c = record { law = loops_are_a_session }
