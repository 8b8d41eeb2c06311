-- The parts that were put one after another are the frame.
use Rattle.std.proofs.Common.{◌≡◌, ◌+◌, ◌++◌, length, ap, ◌∙◌, arith}
use Rattle.std.specs.Int.{w64, to_le_bytes}
use Rattle.fixp_msgs.specs.Message.{establishment_ack}
use Rattle.fixp_msgs.specs.Table.{Field, row_of}
use Rattle.fixp_msgs.specs.Canonical.{field_bytes, message_bytes, framing_bytes, header_bytes}
use Rattle.fixp_msgs.proofs.Written.{joined_all}
use Rattle.fixp_msgs.proofs.writing.EstablishmentAckWritten.put.Goals as goal

pub returns-clause-frame : goal.returns-clause-frame
returns-clause-frame c =
    let m = establishment_ack c.args.self.session_id c.args.self.request_timestamp c.args.self.keepalive c.args.self.next_seq c.args.self.expected_next in
    let size : c.args.frame ≡ 6 + length (message_bytes m) = omega arith in
    joined_all (framing_bytes c.args.frame ++ header_bytes (row_of m)) c.args.self.session_id (to_le_bytes w64 c.args.self.request_timestamp) _ _
    (field_bytes (Field.expected c.args.self.expected_next))
    (rw (c.established_head-head.ensures.block, c.established_head-head.ensures.template, c.established_head-head.ensures.version) at c.put_head-at.ensures.front)
    c.put-at.ensures.front (rw c.to_le_bytes.ensures at c.put-at-2.ensures.front) (rw c.to_le_bytes-2.ensures at c.put-at-3.ensures.front)
    (rw c.optional_bytes.ensures at c.put-at-4.ensures.front) c.put_expected.ensures.front
    ∙ ap (λ n. framing_bytes n ++ message_bytes m) size
