use Rattle.flow_idem.proofs.Grows.{follows_records}
use Rattle.flow_idem.proofs.laws.follows_records.Goals as goal

pub returns : goal.returns
returns c = record { law = follows_records }
