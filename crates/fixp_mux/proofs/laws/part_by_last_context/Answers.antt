use Rattle.fixp_mux.proofs.Partings as lemmas
use Rattle.fixp_mux.proofs.laws.part_by_last_context.Goals as goal

pub returns : goal.returns
returns c = record { law = lemmas.part_by_last_context }
