use Rattle.stranger_laws.proofs.Given.{no_frame_is_strange}
use Rattle.stranger_laws.proofs.strangers.no_frame_is_strange.Goals as goal

pub returns : goal.returns
returns c = record { law = no_frame_is_strange }
