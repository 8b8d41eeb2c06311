use Rattle.std.proofs.Common.{refl}
use Rattle.gw_rehearse.proofs.Stories.{cut_over, ended_over, not_open}
use Rattle.gw_rehearse.proofs.end.DrivenEnd.cut.Goals as goal

pub returns-in_default : goal.returns-in_default
returns-in_default c = record {
  driven = c.requires.driven;
  inbox = refl;
  given = refl;
  over = λ b past leg first k sound whole. ended_over b past leg c.args.self.now (not_open c.args.self.now.standing c.in_default.not-Open sound whole) k;
  rests = λ _. refl;
}

pub returns-clause-over : goal.returns-clause-over
returns-clause-over c = λ b past leg first k sound whole. cut_over b past leg c.args.self.now _ first refl c.in-Open.is refl c.cut.ensures.cut refl refl k
