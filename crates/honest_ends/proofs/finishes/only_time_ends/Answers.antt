use Rattle.honest_ends.proofs.FinishLaws.{only_time_ends}
use Rattle.honest_ends.proofs.finishes.only_time_ends.Goals as goal

pub returns : goal.returns
returns c = record { law = only_time_ends }
