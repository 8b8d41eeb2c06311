use Rattle.session_model.proofs.Truth.{announced_entries_are_true}
use Rattle.session_model.proofs.laws.announced_entries_are_true.Goals as goal

pub returns : goal.returns
returns c = record { law = announced_entries_are_true }
