use Rattle.honest_ends.proofs.NumberLaws.{numbers_hold}
use Rattle.honest_ends.proofs.numbers.numbers_hold.Goals as goal

pub returns : goal.returns
returns c = record { law = numbers_hold }
