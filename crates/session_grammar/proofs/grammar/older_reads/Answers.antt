use Rattle.session_grammar.proofs.Tied.{older_reads}
use Rattle.session_grammar.proofs.grammar.older_reads.Goals as goal

pub returns : goal.returns
returns c = record { law = older_reads }
