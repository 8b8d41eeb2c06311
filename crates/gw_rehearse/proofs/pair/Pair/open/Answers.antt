use Rattle.std.proofs.Math.Logic.{∥∥₁_map₂}
use Rattle.gw_rehearse.proofs.Together.{new_pair}
use Rattle.gw_rehearse.proofs.pair.Pair.open.Goals as goal

pub invariant_of-result : goal.invariant_of-result
invariant_of-result g c =
    let link = c.args.script.now.link in (
      c.in_ok-initiator.ensures.driven,
      c.in-Some.ensures.driven,
      λ sound. ∥∥₁_map₂ c.in_ok-initiator.ensures.first c.in-Some.ensures.first (λ k l. new_pair link.client_flow link.server_flow c.in_ok-initiator.initiator c.in-Some.acceptor k l),
    )
