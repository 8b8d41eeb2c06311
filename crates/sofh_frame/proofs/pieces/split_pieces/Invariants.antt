-- The pieces so far are read, and no fault stands.
use Rattle.std.proofs.Common.{◌≡◌, take}
use Rattle.sofh_frame.specs.Framing.{rest}
use Rattle.sofh_frame.specs.OwnedSplit.{end_seen, joined, IsRead, IsEndAt}
use Rattle.sofh_frame.proofs.pieces.split_pieces.Given as goal

abbrev pub invariant-loop-piece : goal.invariant-loop-piece
invariant-loop-piece l =
    IsRead (joined (take l.piece-index l.pieces)) l.split l.framer.held
    × (end_seen l.split.end ≡ rest)
    × IsEndAt l.split.end l.framer.held
