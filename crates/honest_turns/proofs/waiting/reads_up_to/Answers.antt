use Rattle.honest_turns.proofs.Unsent.{reads_up_to}
use Rattle.honest_turns.proofs.waiting.reads_up_to.Goals as goal

pub returns : goal.returns
returns c = record { law = reads_up_to }
