use Rattle.gw_rehearse.proofs.Together.{finds_none, submitted}
use Rattle.gw_rehearse.proofs.pair.Pair.has_sent.Goals as goal

pub invariant_of-self : goal.invariant_of-self
invariant_of-self g c =
    let p = c.self.inside in
    (c.has_sent.ensures.driven, c.self.invariant.1, submitted p.client p.server p.initiator _ p.acceptor p.pipe (finds_none p.initiator _ c.has_sent.ensures.same) c.self.invariant.2)
