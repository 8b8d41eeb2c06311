use Rattle.text_dates.proofs.Years.{begins}
use Rattle.text_dates.proofs.calendar.year_of.Goals as goal

pub loop-part-init : goal.loop-part-init
loop-part-init c = begins c.args.day

pub returns-clause-within : goal.returns-clause-within
returns-clause-within c = c.loop-part.invariant.within
