use Rattle.fixp_machine.proofs.Accepted.{begins_agreeing}
use Rattle.fixp_machine.proofs.growth.begins_agreeing.Goals as goal

pub returns : goal.returns
returns c = record { law = begins_agreeing }
