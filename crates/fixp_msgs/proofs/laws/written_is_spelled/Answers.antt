-- The header, the fields and the datum are read back one after another.
use Rattle.fixp_msgs.proofs.Written.{written_spells}
use Rattle.fixp_msgs.proofs.laws.written_is_spelled.Goals as goal

pub returns : goal.returns
returns c = written_spells
