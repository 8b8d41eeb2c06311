-- The bytes determine the template, the block and what stands behind it, and these the message.
use Rattle.fixp_msgs.proofs.Rows.{at_most_one}
use Rattle.fixp_msgs.proofs.laws.one_message.Goals as goal

pub returns : goal.returns
returns c = at_most_one
