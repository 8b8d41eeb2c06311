use Rattle.jr_shown.proofs.Seeing.{starts_back, starts_at_time}
use Rattle.jr_shown.proofs.ahead.start_of.Goals as goal

pub returns-in_ok-seen-in-Last-clause-start : goal.returns-in_ok-seen-in-Last-clause-start
returns-in_ok-seen-in-Last-clause-start g c = λ image told.
    rw c.in-Last.is (starts_back c.in-Last.n image c.in_ok-seen-in-Last.seen c.from_last.result (c.in_ok-seen-in-Last.ensures.saw image (rw c.in-Last.is at told)) c.from_last.ensures)

pub returns-in_ok-seen-in-TimeOfDay-clause-start : goal.returns-in_ok-seen-in-TimeOfDay-clause-start
returns-in_ok-seen-in-TimeOfDay-clause-start g c = λ image told.
    rw c.in-TimeOfDay.is (starts_at_time c.in-TimeOfDay.time image c.in_ok-seen-in-TimeOfDay.seen c.at_time.result (c.in_ok-seen-in-TimeOfDay.ensures.saw image (rw c.in-TimeOfDay.is at told)) c.at_time.ensures)
