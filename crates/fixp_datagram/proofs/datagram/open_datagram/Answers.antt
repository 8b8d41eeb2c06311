-- Bytes spell one datagram at most, and fail to for one reason at most.
use Rattle.fixp_datagram.proofs.Framed.{answered_only, answered_too_long, answered_no_sequence, answered_bad_frame}
use Rattle.fixp_datagram.proofs.datagram.open_datagram.Goals as goal

pub returns-clause-only : goal.returns-clause-only
returns-clause-only c = answered_only c.args.bytes.now c.read_datagram.result c.read_datagram.ensures

pub returns-clause-too_long : goal.returns-clause-too_long
returns-clause-too_long c = answered_too_long c.args.bytes.now c.read_datagram.result c.read_datagram.ensures

pub returns-clause-no_sequence : goal.returns-clause-no_sequence
returns-clause-no_sequence c = answered_no_sequence c.args.bytes.now c.read_datagram.result c.read_datagram.ensures

pub returns-clause-bad_frame : goal.returns-clause-bad_frame
returns-clause-bad_frame c = answered_bad_frame c.args.bytes.now c.read_datagram.result c.read_datagram.ensures
