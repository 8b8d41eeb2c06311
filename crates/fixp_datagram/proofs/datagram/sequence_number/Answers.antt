-- What is not read is not spelled.
use Rattle.fixp_msgs.specs.Message.{sequence}
use Rattle.fixp_datagram.proofs.datagram.sequence_number.Goals as goal

pub returns-in-Err-clause-none : goal.returns-in-Err-clause-none
returns-in-Err-clause-none c n session spelled = c.in-Err.ensures.only (sequence n) spelled
