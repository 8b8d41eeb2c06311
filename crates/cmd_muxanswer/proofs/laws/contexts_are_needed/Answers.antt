use Rattle.cmd_muxanswer.proofs.Wires as lemmas
use Rattle.cmd_muxanswer.proofs.laws.contexts_are_needed.Goals as goal

pub returns : goal.returns
returns c = record { law = lemmas.contexts_are_needed }
