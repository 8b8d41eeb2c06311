use Rattle.conn_keys.proofs.Standing.{verdicts_stand}
use Rattle.conn_keys.proofs.laws.verdicts_stand.Goals as goal

pub returns : goal.returns
returns c = record { law = verdicts_stand }
