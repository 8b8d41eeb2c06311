use Rattle.conn_keys.proofs.Standing.{few_wait}
use Rattle.conn_keys.proofs.laws.few_wait.Goals as goal

pub returns : goal.returns
returns c = record { law = few_wait }
