-- The numbers of both flows, over any steps.
use Rattle.honest_ends.specs.NumberLaws.{NumbersHold, NumberedHolds}
use Rattle.honest_ends.proofs.Numbering.{counted_after, counted_at_first, numbered_of}
use Rattle.honest_ends.specs.Worlds.{world_after}

pub numbers_hold : NumbersHold
numbers_hold hi ha w steps st may = let n = counted_after hi ha w steps (counted_at_first hi ha w st) may in (n.initiator, n.acceptor)

pub numbered_holds : NumberedHolds
numbered_holds hi ha w steps st may = numbered_of hi ha (world_after w steps) (counted_after hi ha w steps (counted_at_first hi ha w st) may)
