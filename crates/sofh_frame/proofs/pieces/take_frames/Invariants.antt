-- What was read so far, and the bytes held are fewer after each frame.
use Rattle.std.proofs.Common.{ℕ, List, length}
use Rattle.sofh_frame.specs.OwnedSplit.{IsRead}
use Rattle.sofh_frame.proofs.pieces.take_frames.Given as goal

abbrev pub invariant-loop-end : goal.invariant-loop-end
invariant-loop-end l = (bytes : List ℕ) → IsRead bytes l.fn.split l.fn.framer.held → IsRead bytes l.split l.framer.held

abbrev pub decreases-loop-end : goal.decreases-loop-end
decreases-loop-end l = length l.framer.held
