use Rattle.session_grammar.proofs.Tied.{every_tree}
use Rattle.session_grammar.proofs.grammar.every_tree.Goals as goal

pub returns : goal.returns
returns c = record { law = every_tree }
