use Rattle.fixp_machine.proofs.Accepted.{own_keeps_agreeing}
use Rattle.fixp_machine.proofs.growth.own_keeps_agreeing.Goals as goal

pub returns : goal.returns
returns c = record { law = own_keeps_agreeing }
