use Rattle.sofh_frame.proofs.SplitLemmas as lemmas
use Rattle.sofh_frame.proofs.laws.bytes_are_split.Goals as goal

pub returns : goal.returns
returns c = lemmas.bytes_are_split
