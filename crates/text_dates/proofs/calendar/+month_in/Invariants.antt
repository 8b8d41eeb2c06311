use Rattle.std.proofs.Common.{length}
use Rattle.text_dates.proofs.calendar.+month_in.Given as goal

abbrev pub decreases-month_in : goal.decreases-month_in
decreases-month_in l = length l.lengths.now
