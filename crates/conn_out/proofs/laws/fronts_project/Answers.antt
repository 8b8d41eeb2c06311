use Rattle.conn_out.proofs.Fronts.{fronts_project}
use Rattle.conn_out.proofs.laws.fronts_project.Goals as goal

pub returns : goal.returns
returns c = record { law = fronts_project }
