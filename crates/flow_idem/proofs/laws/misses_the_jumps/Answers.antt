use Rattle.flow_idem.proofs.Grows.{misses_the_jumps}
use Rattle.flow_idem.proofs.laws.misses_the_jumps.Goals as goal

pub returns : goal.returns
returns c = record { law = misses_the_jumps }
