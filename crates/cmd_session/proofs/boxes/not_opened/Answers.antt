use Rattle.std.proofs.Common.{refl}
use Rattle.cmd_session.proofs.boxes.not_opened.Goals as goal

pub returns-in-NotFormatted-clause-refused : goal.returns-in-NotFormatted-clause-refused
returns-in-NotFormatted-clause-refused g c = λ flow refuses. c.not_formatted.ensures.refused flow (rw c.in-NotFormatted.is at refuses)

pub returns-in-Damaged-clause-refused : goal.returns-in-Damaged-clause-refused
returns-in-Damaged-clause-refused g c = λ flow refuses. (refl, rw c.in-Damaged.is at refuses)
