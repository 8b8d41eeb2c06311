use Rattle.std.proofs.Common.{refl}
use Rattle.gw_rehearse.proofs.rehearsal.has_finished.Goals as goal

pub returns-then-has_finish : goal.returns-then-has_finish
returns-then-has_finish c = λ is. record { finish = c.if-has_finish.ensures refl; heard = c.has_heard.ensures is }
