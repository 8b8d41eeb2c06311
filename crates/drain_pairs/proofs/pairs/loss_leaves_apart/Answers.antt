use Rattle.drain_pairs.proofs.Lost.{loss_leaves_apart}
use Rattle.drain_pairs.proofs.pairs.loss_leaves_apart.Goals as goal

pub returns : goal.returns
returns c = record { law = loss_leaves_apart }
