use Rattle.connection_laws.proofs.Written.{written_is_legal}
use Rattle.connection_laws.proofs.writing.written_is_legal.Goals as goal

pub returns : goal.returns
returns c = record { law = written_is_legal }
