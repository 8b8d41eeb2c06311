use Rattle.std.proofs.Common.{sym, ◌∙◌}
use Rattle.std.proofs.lemmas.Bool.{false≢true}
use Rattle.jr_judge.proofs.Counting.{outbox_taken, outbox_excluded, inbox_takes, inbox_excludes}
use Rattle.jr_judge.proofs.counted.Counted.take.Goals as goal

pub returns-in-Outbox-clause-taken : goal.returns-in-Outbox-clause-taken
returns-in-Outbox-clause-taken c = rw c.in-Outbox.is (λ yes which before long is. outbox_taken c.in-Outbox.tally c.take.new.self c.args.r.now (c.take.ensures.fits.0 yes) (c.take.ensures.taken yes) which before is)

pub returns-in-Outbox-clause-excluded : goal.returns-in-Outbox-clause-excluded
returns-in-Outbox-clause-excluded c = rw c.in-Outbox.is (λ no which all here is. outbox_excluded c.in-Outbox.tally c.args.at c.args.r.now (λ may. false≢true (sym no ∙ c.take.ensures.fits.1 may)) which all here is)

pub returns-in-Outbox-clause-within : goal.returns-in-Outbox-clause-within
returns-in-Outbox-clause-within c = c.take.ensures.within c.args.at (rw c.in-Outbox.is at c.requires.room)

pub returns-in-Inbox-clause-taken : goal.returns-in-Inbox-clause-taken
returns-in-Inbox-clause-taken c = rw c.in-Inbox.is (inbox_takes c.note.result c.in-Inbox.notes c.note.new.self c.args.at c.args.r.now c.note.ensures.fits c.note.ensures.noted)

pub returns-in-Inbox-clause-excluded : goal.returns-in-Inbox-clause-excluded
returns-in-Inbox-clause-excluded c = rw c.in-Inbox.is (inbox_excludes c.note.result c.in-Inbox.notes c.args.at c.args.r.now c.note.ensures.fits)
