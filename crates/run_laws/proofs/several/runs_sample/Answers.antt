use Rattle.run_laws.proofs.Sampled.{runs_sample}
use Rattle.run_laws.proofs.several.runs_sample.Goals as goal

pub returns : goal.returns
returns g c = record { law = runs_sample c.args.empty.now }
