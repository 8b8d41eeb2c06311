use Rattle.session_model.proofs.Through.{no_events_grow_nothing}
use Rattle.session_model.proofs.laws.no_events_grow_nothing.Goals as goal

pub returns : goal.returns
returns c = record { law = no_events_grow_nothing }
