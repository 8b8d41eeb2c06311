use Rattle.honest_turns.proofs.Unsent.{one_reads}
use Rattle.honest_turns.proofs.waiting.one_reads.Goals as goal

pub returns : goal.returns
returns c = record { law = one_reads }
