use Rattle.two_ends.proofs.Ends.{loops_hold}
use Rattle.two_ends.proofs.loops.loops_hold.Goals as goal

pub returns : goal.returns
returns c = record { law = loops_hold }
