-- Frames of the session were moved so far, or none was.
use Rattle.std.proofs.Common.{◌≡◌, length}
use Rattle.fixp_mux.specs.Begun.{BeganSome, outputs}
use Rattle.fixp_mux.proofs.sessions.Sessions.begin_all.Given as goal

abbrev pub invariant-loop-began : goal.invariant-loop-began
invariant-loop-began l = record {
  moved : BeganSome l.fn.self l.fn.unsent l.began l.self l.unsent;
  count : length l.self.sessions ≡ length l.fn.self.sessions;
}

abbrev pub decreases-loop-began : goal.decreases-loop-began
decreases-loop-began l = outputs l.self.sessions
