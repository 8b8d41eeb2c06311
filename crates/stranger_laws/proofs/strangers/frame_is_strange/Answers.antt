use Rattle.stranger_laws.proofs.Given.{frame_is_strange}
use Rattle.stranger_laws.proofs.strangers.frame_is_strange.Goals as goal

pub returns : goal.returns
returns c = record { law = frame_is_strange }
