use Rattle.fixp_mux.proofs.Apart as lemmas
use Rattle.fixp_mux.proofs.laws.sessions_apart.Goals as goal

pub returns : goal.returns
returns c = record { law = lemmas.sessions_apart }
