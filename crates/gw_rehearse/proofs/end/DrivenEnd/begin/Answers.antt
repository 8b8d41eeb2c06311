use Rattle.std.proofs.Common.{refl}
use Rattle.gw_rehearse.proofs.Stories.{begun}
use Rattle.gw_rehearse.proofs.end.DrivenEnd.begin.Goals as goal

pub returns-clause-begun : goal.returns-clause-begun
returns-clause-begun c = λ b legs k. begun b legs c.args.self.now _ _ refl c.begin.ensures.limit refl c.begin.ensures.begun refl refl k
