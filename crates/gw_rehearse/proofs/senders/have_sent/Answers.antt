use Rattle.std.proofs.Common.{subst}
use Rattle.gw_rehearse.specs.Standing.{AreDone}
use Rattle.gw_rehearse.proofs.Sent.{done_are_sent}
use Rattle.gw_rehearse.proofs.senders.have_sent.Goals as goal

pub returns-clause-sent : goal.returns-clause-sent
returns-clause-sent g c = λ yes.
    done_are_sent c.args.gate.now c.args.senders.now.items c.count_done.new.senders.items c.args.messages.now c.count_done.ensures.each
    (subst (λ l. AreDone l c.args.messages.now) c.as_slice.ensures.value (c.are_done.ensures yes))
