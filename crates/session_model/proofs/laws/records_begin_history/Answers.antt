use Rattle.session_model.proofs.Planned.{records_begin_history}
use Rattle.session_model.proofs.laws.records_begin_history.Goals as goal

pub returns : goal.returns
returns c = record { law = records_begin_history }
