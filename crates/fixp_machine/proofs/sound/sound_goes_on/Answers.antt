use Rattle.fixp_machine.proofs.Keeping.{sound_goes_on}
use Rattle.fixp_machine.proofs.sound.sound_goes_on.Goals as goal

pub returns : goal.returns
returns c = record { law = sound_goes_on }
