use Rattle.flow_window.proofs.Taken.{holds_what_came}
use Rattle.flow_window.proofs.laws.holds_what_came.Goals as goal

pub returns : goal.returns
returns c = record { law = holds_what_came }
