use Rattle.sofh_frame.proofs.SplitLemmas as lemmas
use Rattle.sofh_frame.proofs.laws.splits_are_one.Goals as goal

pub returns : goal.returns
returns c = lemmas.splits_are_one
