use Rattle.connection_laws.proofs.Replied.{frame_hears}
use Rattle.connection_laws.proofs.replying.frame_hears.Goals as goal

pub returns : goal.returns
returns c = record { law = frame_hears }
