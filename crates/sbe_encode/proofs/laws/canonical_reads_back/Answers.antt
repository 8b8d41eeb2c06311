use Rattle.sbe_encode.proofs.MessagesAgain as messages
use Rattle.sbe_encode.proofs.laws.canonical_reads_back.Goals as goal

pub returns : goal.returns
returns c = record { law = messages.canonical_reads_back }
