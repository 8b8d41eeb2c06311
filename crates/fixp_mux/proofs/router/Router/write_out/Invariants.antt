-- Frames were begun and bytes taken so far.
use Rattle.std.proofs.Common.{◌≡◌}
use Rattle.fixp_mux.specs.Begun.{outputs}
use Rattle.fixp_mux.specs.Stepping.{WroteSome, during}
use Rattle.fixp_mux.proofs.router.Router.write_out.Given as goal

abbrev pub invariant-loop-taken : goal.invariant-loop-taken
invariant-loop-taken g l = record {
  wrote : WroteSome (g.L.Link.told l.fn.link) (g.L.Link.told l.link) (g.L.Link.carried l.fn.link) (g.L.Link.carried l.link) (during l.fn.self) (during l.self) l.sent;
  stayed : g.L.Link.place l.link ≡ g.L.Link.place l.fn.link;
  counted : g.L.Link.faults l.link ≡ g.L.Link.faults l.fn.link;
}

abbrev pub decreases-loop-taken : goal.decreases-loop-taken
decreases-loop-taken g l = outputs l.self.sessions.sessions
