use Rattle.std.proofs.Common.{◌≡◌, ◌≤◌, ℕ, length, arith}
use Rattle.conn_keys.proofs.Bytes.{negotiation_reject_size, establishment_reject_size}
use Rattle.conn_keys.proofs.judging.Reject.write.Goals as goal

pub write-requires-clause-room : goal.write-requires-clause-room
write-requires-clause-room c =
    let size = negotiation_reject_size c.in-Negotiation.session_id c.in-Negotiation.request_timestamp c.code.result (omega arith) in
    omega (arith, size)

pub write-requires-in-Establishment-clause-room : goal.write-requires-in-Establishment-clause-room
write-requires-in-Establishment-clause-room c =
    let size = establishment_reject_size c.in-Establishment.session_id c.in-Establishment.request_timestamp c.code-in-Establishment.result (omega arith) in
    omega (arith, size)
