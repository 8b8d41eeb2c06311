use Rattle.two_ends.proofs.Refused.{refusal_ends}
use Rattle.two_ends.proofs.refusing.refusal_ends.Goals as goal

pub returns : goal.returns
returns c = record { law = refusal_ends }
