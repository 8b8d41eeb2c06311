use Rattle.flow_window.proofs.Delivered.{delivers_what_is_taken}
use Rattle.flow_window.proofs.laws.delivers_what_is_taken.Goals as goal

pub returns : goal.returns
returns c = record { law = delivers_what_is_taken }
