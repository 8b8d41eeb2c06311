use Rattle.gw_rehearse.proofs.Together.{submitted}
use Rattle.gw_rehearse.proofs.pair.Pair.submit.Goals as goal

pub invariant_of-self : goal.invariant_of-self
invariant_of-self g c =
    let p = c.self.inside in
    (c.submit.ensures.driven, c.self.invariant.1, submitted p.client p.server p.initiator _ p.acceptor p.pipe c.submit.ensures.finds c.self.invariant.2)

pub invariant_of-self-2 : goal.invariant_of-self-2
invariant_of-self-2 g c =
    let p = c.self.inside in
    (c.submit.ensures.driven, c.self.invariant.1, submitted p.client p.server p.initiator _ p.acceptor p.pipe c.submit.ensures.finds c.self.invariant.2)
