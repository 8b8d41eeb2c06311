use Rattle.fixp_machine.proofs.Accepted.{refused_frame_spares}
use Rattle.fixp_machine.proofs.growth.refused_frame_spares.Goals as goal

pub returns : goal.returns
returns c = record { law = refused_frame_spares }
