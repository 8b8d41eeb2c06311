use Rattle.std.proofs.Common.{rules}
use Rattle.gw_links.proofs.EchoSteps.{is_echo, one_more_echoed}
use Rattle.gw_links.proofs.echoing.echo_all.Goals as goal

pub loop-preserved : goal.loop-preserved
loop-preserved g c = record {
  echoed =
      one_more_echoed _ _ _ _ _ c.loop.invariant.echoed (rw c.in-Link.is at c.in_ok-link.ensures.told) c.back.ensures.told
      (λ tells. is_echo _ _ _ _ (rw c.in-Link.is at c.in_ok-link.ensures.fresh) ((rw c.in-Link.is at c.in_ok-link.ensures.tells) tells) c.echo.ensures.front)
      (rw c.in-Link.is at c.in_ok-link.ensures.left);
  home = search rules;
  counted = search rules;
}
