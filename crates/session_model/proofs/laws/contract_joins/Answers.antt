use Rattle.session_model.proofs.Kept.{contract_joins}
use Rattle.session_model.proofs.laws.contract_joins.Goals as goal

pub returns : goal.returns
returns c = record { law = contract_joins }
