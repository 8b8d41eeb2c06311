use Rattle.flow_window.proofs.Staying.{gap_is_missing}
use Rattle.flow_window.proofs.laws.gap_is_missing.Goals as goal

pub returns : goal.returns
returns c = record { law = gap_is_missing }
