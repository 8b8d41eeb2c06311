use Rattle.routes.proofs.Standing as lemmas
use Rattle.routes.proofs.laws.first_is_one.Goals as goal

pub returns : goal.returns
returns c = record { law = lemmas.first_is_one }
