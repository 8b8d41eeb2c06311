use Rattle.sbe_grammar.proofs.MessagesRead.{read_iff_spelled}
use Rattle.sbe_grammar.proofs.read_is_spelled.Goals as goal

pub returns : goal.returns
returns c = record { law = read_iff_spelled }
