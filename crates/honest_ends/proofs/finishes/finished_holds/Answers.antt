use Rattle.honest_ends.proofs.FinishLaws.{finished_holds}
use Rattle.honest_ends.proofs.finishes.finished_holds.Goals as goal

pub returns : goal.returns
returns c = record { law = finished_holds }
