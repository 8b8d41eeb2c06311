use Rattle.std.proofs.Common.{◌≡◌, length}
use Rattle.gw_links.proofs.Moving.{SentOn}
use Rattle.gw_links.proofs.send.send_front.Given as goal

abbrev pub invariant-loop-link : goal.invariant-loop-link
invariant-loop-link g l = record {
  sent : SentOn (g.L.Link.told l.fn.link) (g.L.Link.told l.link) (g.L.Link.carried l.fn.link) (g.L.Link.carried l.link) l.bytes l.rest;
  stayed : g.L.Link.place l.link ≡ g.L.Link.place l.fn.link;
  counted : g.L.Link.faults l.link ≡ g.L.Link.faults l.fn.link;
}

abbrev pub decreases-loop-link : goal.decreases-loop-link
decreases-loop-link g l = length l.rest
