use Rattle.fixp_mux.proofs.Pumps as lemmas
use Rattle.fixp_mux.proofs.laws.a_pump_happens.Goals as goal

pub returns : goal.returns
returns c = record { law = lemmas.a_pump_happens }
