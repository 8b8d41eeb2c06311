use Rattle.sofh_frame.proofs.SplitLemmas as lemmas
use Rattle.sofh_frame.proofs.laws.split_begins.Goals as goal

pub returns : goal.returns
returns c = lemmas.split_begins
