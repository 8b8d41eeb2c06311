use Rattle.connection_laws.proofs.Spelled.{spelled_fits}
use Rattle.connection_laws.proofs.writing.spelled_fits.Goals as goal

pub returns : goal.returns
returns c = record { law = spelled_fits }
