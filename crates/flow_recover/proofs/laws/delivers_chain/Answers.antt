use Rattle.flow_recover.proofs.Chains.{delivers_chain}
use Rattle.flow_recover.proofs.laws.delivers_chain.Goals as goal

pub returns : goal.returns
returns c = record { law = delivers_chain }
