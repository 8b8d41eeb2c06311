use Rattle.run_laws.proofs.TimedSampled.{runs_in_time_sample, later_sample}
use Rattle.run_laws.proofs.timed.runs_in_time_sample.Goals as goal

pub returns : goal.returns
returns g c = record { law = runs_in_time_sample c.args.empty.now; later = later_sample }
