use Rattle.cmd_muxanswer.proofs.Once as lemmas
use Rattle.cmd_muxanswer.proofs.laws.one_mux_answer.Goals as goal

pub returns : goal.returns
returns c = record { law = lemmas.one_mux_answer }
