-- What was poured in is read, and the next end stands.
use Rattle.std.proofs.Common.{arith}
use Rattle.sofh_frame.proofs.ReadLemmas.{IsRead-pour, IsRead-end}
use Rattle.sofh_frame.proofs.pieces.feed.Goals as goal

pub loop-taken-preserved : goal.loop-taken-preserved
loop-taken-preserved c =
    (λ bytes read. IsRead-end _ c.take_frames.new.split _ c.in_ok-split.field-0 (c.in_ok-split.ensures.read _ (IsRead-pour bytes c.args.piece.now _ c.loop-taken.framer.held _ c.loop-taken.split c.loop-taken.taken c.pour-taken.result c.split_at.ensures.back c.pour-taken.ensures.held (c.loop-taken.invariant.0 bytes read))), c.in_ok-split.ensures.end, omega (arith, c.pour-taken.ensures.count, c.split_at.ensures.back_len))
