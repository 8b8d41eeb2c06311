use Rattle.honest_turns.proofs.Counted.{refused_counts}
use Rattle.honest_turns.proofs.counting.refused_counts.Goals as goal

pub returns : goal.returns
returns c = record { law = refused_counts }
