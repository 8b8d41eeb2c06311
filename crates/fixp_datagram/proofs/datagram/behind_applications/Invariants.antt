use Rattle.std.proofs.Common.{length}
use Rattle.fixp_datagram.proofs.Reading.{IsRead}
use Rattle.fixp_datagram.proofs.datagram.behind_applications.Given as goal

abbrev pub invariant-loop-size : goal.invariant-loop-size
invariant-loop-size l = IsRead l.bytes l.rest

abbrev pub decreases-loop-size : goal.decreases-loop-size
decreases-loop-size l = length l.rest
