-- The parts that were put one after another are the frame.
use Rattle.std.proofs.Common.{◌≡◌, ◌+◌, ◌++◌, length, ap, ◌∙◌, arith}
use Rattle.std.specs.Int.{w64, to_le_bytes}
use Rattle.fixp_msgs.specs.Message.{retransmission}
use Rattle.fixp_msgs.specs.Table.{row_of}
use Rattle.fixp_msgs.specs.Canonical.{message_bytes, framing_bytes, header_bytes}
use Rattle.fixp_msgs.proofs.Written.{joined}
use Rattle.fixp_msgs.proofs.writing.RetransmissionWritten.put.Goals as goal

pub returns-clause-frame : goal.returns-clause-frame
returns-clause-frame c =
    let m = retransmission c.args.self.session_id c.args.self.next_seq c.args.self.request_timestamp c.args.self.count in
    let size : c.args.frame ≡ 6 + length (message_bytes m) = omega arith in
    joined (framing_bytes c.args.frame ++ header_bytes (row_of m)) c.args.self.session_id (to_le_bytes w64 c.args.self.next_seq) _ _ c.put_named-at.ensures.front
    (rw c.to_le_bytes.ensures at c.put-at.ensures.front) (rw c.to_le_bytes-2.ensures at c.put.ensures.front)
    ∙ ap (λ n. framing_bytes n ++ message_bytes m) size
