use Rattle.fixp_machine.proofs.Calls.{calls_keep_sound}
use Rattle.fixp_machine.proofs.machine.calls_keep_sound.Goals as goal

pub returns : goal.returns
returns c = record { law = calls_keep_sound }
