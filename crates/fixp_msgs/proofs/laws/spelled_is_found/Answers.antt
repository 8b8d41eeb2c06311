use Rattle.fixp_msgs.proofs.Found.{spelled_is_found}
use Rattle.fixp_msgs.proofs.laws.spelled_is_found.Goals as goal

pub returns : goal.returns
returns c = spelled_is_found
