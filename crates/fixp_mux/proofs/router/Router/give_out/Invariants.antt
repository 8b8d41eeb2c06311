-- Frames were given out so far.
use Rattle.std.proofs.Common.{length}
use Rattle.fixp_mux.specs.Stepping.{GivesOut, during}
use Rattle.fixp_mux.proofs.router.Router.give_out.Given as goal

abbrev pub invariant-loop-gave_one : goal.invariant-loop-gave_one
invariant-loop-gave_one l = GivesOut (during l.fn.self) (during l.self) l.gave_one

abbrev pub decreases-loop-gave_one : goal.decreases-loop-gave_one
decreases-loop-gave_one l = length l.self.framer.held
