use Rattle.run_laws.proofs.Telling.{boxes_tell}
use Rattle.run_laws.proofs.pieces.boxes_tell.Goals as goal

pub returns : goal.returns
returns c = record { law = boxes_tell }
