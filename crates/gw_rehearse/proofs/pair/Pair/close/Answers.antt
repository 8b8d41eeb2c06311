use Rattle.std.proofs.Common.{ap, ◌∙◌, subst}
use Rattle.std.proofs.Math.Logic.{∥∥₁_elim, ∥∥₁_prop}
use Rattle.gw_rehearse.specs.Together.{PairNow, KeepsSession}
use Rattle.gw_rehearse.proofs.Closing.{keeps_session}
use Rattle.gw_rehearse.proofs.pair.Pair.close.Goals as goal

pub returns-clause-counts : goal.returns-clause-counts
returns-clause-counts c = λ counts is. c.close.ensures.counts counts (ap (λ (v : PairNow). v.sent) c.self.view_is ∙ is)

pub returns-clause-keeps : goal.returns-clause-keeps
returns-clause-keeps c = λ sound.
    let p = c.self.inside in
    let here = ap (λ (v : PairNow). v.lost) c.self.view_is ∙ sound in
    subst (λ (v : PairNow). ∥ KeepsSession v.client v.server c.close.result c.close-2.result ∥₁) c.self.view_is
    (∥∥₁_elim (c.self.invariant.2 here) ∥∥₁_prop (λ t. keeps_session p.client p.server p.initiator p.acceptor c.close.result c.close-2.result p.pipe here c.close.ensures.closed c.close-2.ensures.closed t))
