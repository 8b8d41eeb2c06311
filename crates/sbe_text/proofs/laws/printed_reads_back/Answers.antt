use Rattle.sbe_text.proofs.Printed.{printed_back}
use Rattle.sbe_text.proofs.laws.printed_reads_back.Goals as goal

pub returns : goal.returns
returns c = record { law = printed_back }
