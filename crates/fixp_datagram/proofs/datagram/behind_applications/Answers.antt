-- Each application frame at the front is one more that was read.
use Rattle.std.proofs.Common.{sym, subst}
use Rattle.fixp_datagram.proofs.Reading.{IsRead, nothing_read, read_more, size_within}
use Rattle.fixp_datagram.proofs.datagram.behind_applications.Goals as goal

pub loop-size-init : goal.loop-size-init
loop-size-init c = nothing_read c.args.bytes.now

pub split_at-requires : goal.split_at-requires
split_at-requires c = (size_within c.loop-size.rest.now c.in-Some.size c.in-Some.ensures.found).whole

pub loop-size-preserved : goal.loop-size-preserved
loop-size-preserved c =
    subst (λ behind. IsRead c.args.bytes.now behind) (sym c.split_at.ensures.back)
    (read_more c.args.bytes.now c.loop-size.rest.now c.in-Some.size c.loop-size.invariant c.in-Some.ensures.found)

pub returns-clause-found : goal.returns-clause-found
returns-clause-found c = c.loop-size.invariant
