use Rattle.cmd_muxanswer.proofs.Apart as lemmas
use Rattle.cmd_muxanswer.proofs.laws.each_is_its_own.Goals as goal

pub returns : goal.returns
returns c = record { law = lemmas.each_is_its_own }
