use Rattle.session_grammar.proofs.Tied.{spelled_alike}
use Rattle.session_grammar.proofs.grammar.spelled_alike.Goals as goal

pub returns : goal.returns
returns c = record { law = spelled_alike }
