use Rattle.fixp_mux.proofs.Spelling as lemmas
use Rattle.fixp_mux.proofs.laws.context_is_spelled.Goals as goal

pub returns : goal.returns
returns c = record { law = lemmas.context_is_spelled }
