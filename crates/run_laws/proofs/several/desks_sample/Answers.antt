use Rattle.run_laws.proofs.Sampled.{desks_sample}
use Rattle.run_laws.proofs.several.desks_sample.Goals as goal

pub returns : goal.returns
returns g c = record { law = desks_sample c.args.empty.now }
