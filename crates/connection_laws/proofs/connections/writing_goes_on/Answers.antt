use Rattle.connection_laws.proofs.Lived.{writing_goes_on}
use Rattle.connection_laws.proofs.connections.writing_goes_on.Goals as goal

pub returns : goal.returns
returns c = record { law = writing_goes_on }
