use Rattle.sbe_skew.proofs.AlikeMessages.{reader_law}
use Rattle.sbe_skew.proofs.laws.older_reader.Goals as goal

pub returns : goal.returns
returns c = record { law = reader_law }
