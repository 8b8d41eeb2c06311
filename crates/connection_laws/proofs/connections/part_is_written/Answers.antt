use Rattle.connection_laws.proofs.Lived.{part_is_written}
use Rattle.connection_laws.proofs.connections.part_is_written.Goals as goal

pub returns : goal.returns
returns c = record { law = part_is_written }
