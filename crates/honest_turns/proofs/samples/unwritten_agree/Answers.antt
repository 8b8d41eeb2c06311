use Rattle.honest_turns.proofs.Sampled.{unwritten_agree}
use Rattle.honest_turns.proofs.samples.unwritten_agree.Goals as goal

pub returns : goal.returns
returns c = record { law = unwritten_agree }
