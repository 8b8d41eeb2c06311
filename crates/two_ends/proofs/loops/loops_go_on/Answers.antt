use Rattle.two_ends.proofs.Ends.{loops_go_on}
use Rattle.two_ends.proofs.loops.loops_go_on.Goals as goal

pub returns : goal.returns
returns c = record { law = loops_go_on }
