use Rattle.session_model.proofs.Numbering.{numbering_looks_back}
use Rattle.session_model.proofs.laws.numbering_looks_back.Goals as goal

pub returns : goal.returns
returns c = record { law = numbering_looks_back }
