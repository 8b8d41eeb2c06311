use Rattle.text_dates.proofs.Years.{Reaches}
use Rattle.text_dates.proofs.calendar.year_of.Given as goal

abbrev pub invariant-loop-part : goal.invariant-loop-part
invariant-loop-part l = Reaches l.day l.part

abbrev pub decreases-loop-part : goal.decreases-loop-part
decreases-loop-part l = l.part.day
