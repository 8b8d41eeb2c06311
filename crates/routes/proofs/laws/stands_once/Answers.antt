use Rattle.routes.proofs.Standing as lemmas
use Rattle.routes.proofs.laws.stands_once.Goals as goal

pub returns : goal.returns
returns c = record { law = lemmas.stands_once }
