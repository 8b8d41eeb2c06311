use Rattle.session_model.proofs.Numbering.{numbering_splits}
use Rattle.session_model.proofs.laws.numbering_splits.Goals as goal

pub returns : goal.returns
returns c = record { law = numbering_splits }
