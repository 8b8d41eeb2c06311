-- Frames of the sessions before this one were moved, or none of them has one.
use Rattle.std.proofs.Common.{◌≡◌, length}
use Rattle.fixp_mux.specs.Begun.{IsBegunBetween}
use Rattle.fixp_mux.proofs.sessions.Sessions.begin_between.Given as goal

abbrev pub invariant-loop-place : goal.invariant-loop-place
invariant-loop-place l = record {
  begun : IsBegunBetween l.from l.place l.fn.self l.fn.unsent l.began l.self l.unsent;
  count : length l.self.sessions ≡ length l.fn.self.sessions;
}
