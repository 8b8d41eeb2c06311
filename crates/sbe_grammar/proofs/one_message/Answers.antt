use Rattle.sbe_grammar.proofs.MessagesRead.{spelled_once}
use Rattle.sbe_grammar.proofs.one_message.Goals as goal

pub returns : goal.returns
returns c = record { law = spelled_once }
