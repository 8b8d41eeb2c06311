use Rattle.std.proofs.Common.{◌≡◌}
use Rattle.gw_links.specs.Echoes.{EchoedWhole}
use Rattle.gw_links.proofs.echoing.echo.Given as goal

abbrev pub invariant-loop : goal.invariant-loop
invariant-loop g l = record {
  whole : EchoedWhole (g.L.Link.told l.fn.link) (g.L.Link.told l.link) (g.L.Link.carried l.fn.link) (g.L.Link.carried l.link);
  stayed : g.L.Link.place l.link ≡ g.L.Link.place l.fn.link;
  counted : g.L.Link.faults l.link ≡ g.L.Link.faults l.fn.link;
}
