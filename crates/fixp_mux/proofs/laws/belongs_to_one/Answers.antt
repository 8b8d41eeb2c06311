use Rattle.fixp_mux.proofs.Partings as lemmas
use Rattle.fixp_mux.proofs.laws.belongs_to_one.Goals as goal

pub returns : goal.returns
returns c = record { law = lemmas.belongs_to_one }
