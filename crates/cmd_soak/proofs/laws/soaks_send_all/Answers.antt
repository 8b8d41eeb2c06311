use Rattle.cmd_soak.proofs.Dealing.{each_once, enough}
use Rattle.cmd_soak.proofs.laws.soaks_send_all.Goals as goal

pub returns : goal.returns
returns c = record { law = record { each_once = each_once; enough = enough } }
