use Rattle.run_laws.proofs.Bounded.{images_within}
use Rattle.run_laws.proofs.pieces.images_within.Goals as goal

pub returns : goal.returns
returns c = record { law = images_within }
