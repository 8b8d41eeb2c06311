use Rattle.honest_ends.proofs.NumberLaws.{numbered_holds}
use Rattle.honest_ends.proofs.numbers.numbered_holds.Goals as goal

pub returns : goal.returns
returns c = record { law = numbered_holds }
