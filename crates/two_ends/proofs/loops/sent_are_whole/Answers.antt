use Rattle.two_ends.proofs.Whole.{sent_are_whole}
use Rattle.two_ends.proofs.loops.sent_are_whole.Goals as goal

pub returns : goal.returns
returns c = record { law = sent_are_whole }
