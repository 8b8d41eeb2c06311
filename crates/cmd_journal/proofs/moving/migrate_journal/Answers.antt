use Rattle.std.proofs.Common.{Err, ap}
use Rattle.cmd_journal.proofs.Moved.{moved}
use Rattle.cmd_journal.proofs.moving.migrate_journal.Goals as goal

pub returns-in-Err-clause-moves : goal.returns-in-Err-clause-moves
returns-in-Err-clause-moves g c =
    let e = c.in-Err.ensures in
    rw c.refusal.ensures.value
    (moved (Unit {0}) g.D.Disk.told g.D.Disk.may_leave g.D.Disk.faults (record { outbox = c.args.old.now; inbox = c.args.new.now }) (record { outbox = c.migrate.new.old; inbox = c.migrate.new.new })
    c.in-Err.fault e.refused e.behind (λ is. e.stale (ap Err is)) (λ entries bytes is. e.full entries bytes (ap Err is)) e.same e.same_images (λ is. e.old_cause (ap Err is)) (λ is. e.new_cause (ap Err is)))
