use Rattle.run_laws.proofs.GoingOnSampled.{going_on_sample}
use Rattle.run_laws.proofs.several.going_on_sample.Goals as goal

pub returns : goal.returns
returns g c = record { law = going_on_sample c.args.empty.now }
