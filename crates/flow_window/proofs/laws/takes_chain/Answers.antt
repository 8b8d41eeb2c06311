use Rattle.flow_window.proofs.Taken.{takes_chain}
use Rattle.flow_window.proofs.laws.takes_chain.Goals as goal

pub returns : goal.returns
returns c = record { law = takes_chain }
