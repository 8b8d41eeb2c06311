use Rattle.connection_laws.proofs.Replied.{frame_writes}
use Rattle.connection_laws.proofs.replying.frame_writes.Goals as goal

pub returns : goal.returns
returns c = record { law = frame_writes }
