use Rattle.std.proofs.Common.{◌≡◌, false}
use Rattle.gw_links.specs.Echoes.{EchoedAll}
use Rattle.gw_links.proofs.echoing.echo_all.Given as goal

abbrev pub invariant-loop : goal.invariant-loop
invariant-loop g l = record {
  echoed : EchoedAll (g.N.Dialer.told l.fn.dialer) (g.N.Dialer.told l.dialer);
  home : g.N.Dialer.lent l.dialer ≡ false;
  counted : g.N.Dialer.faults l.dialer ≡ g.N.Dialer.faults l.fn.dialer;
}
