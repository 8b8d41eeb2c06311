-- The bytes of the piece that were taken are read, and the end that stands is that of the bytes held.
use Rattle.std.proofs.Common.{◌≤◌, ◌-◌, ◌++◌, ℕ, List, length, take}
use Rattle.sofh_frame.specs.OwnedSplit.{IsRead, IsEndAt}
use Rattle.sofh_frame.proofs.pieces.feed.Given as goal

abbrev pub invariant-loop-taken : goal.invariant-loop-taken
invariant-loop-taken l =
    ((bytes : List ℕ) → IsRead bytes l.fn.split l.fn.framer.held → IsRead (bytes ++ take l.taken l.piece) l.split l.framer.held)
    × IsEndAt l.split.end l.framer.held
    × (l.taken ≤ length l.piece)

abbrev pub decreases-loop-taken : goal.decreases-loop-taken
decreases-loop-taken l = length l.piece - l.taken
