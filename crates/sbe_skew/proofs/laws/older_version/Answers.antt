use Rattle.sbe_skew.proofs.OlderMessages.{version_law}
use Rattle.sbe_skew.proofs.laws.older_version.Goals as goal

pub returns : goal.returns
returns c = record { law = version_law }
