use Rattle.session_grammar.proofs.Tied.{short_alike}
use Rattle.session_grammar.proofs.grammar.short_alike.Goals as goal

pub returns : goal.returns
returns c = record { law = short_alike }
