use Rattle.std.proofs.Common.{inl, inr, refl}
use Rattle.jr_segments.specs.Journal.{disk_of}
use Rattle.cmd_session.proofs.Kept.{inbox_kept}
use Rattle.cmd_session.proofs.command.open_session.Goals as goal

pub returns-in-Err-clause-refused : goal.returns-in-Err-clause-refused
returns-in-Err-clause-refused g c = inl (c.in-Err.ensures.refused, refl)

pub returns-in-Err-plans_on-clause-refused : goal.returns-in-Err-plans_on-clause-refused
returns-in-Err-plans_on-clause-refused g c =
    let opened = c.in-Ok.ensures.opened in
    let stopped = c.in-Err-plans_on.ensures in
    inr (
      c.in-Ok.ensures.told,
      stopped.refused c.args.out_disk opened.0 c.in-Ok.ensures.never_falls.0,
      record {
        outbox = stopped.kept c.args.out_disk opened.0;
        inbox = inbox_kept g.D.Disk.told g.D.Disk.may_leave (disk_of {G = g.D.Disk}) c.in-Ok.boxes.1 c.args.in_disk _ opened.1 (λ image h. h) c.close_inbox.ensures.disk;
      },
    )

pub returns-in-Ok-plans_on-clause-opened : goal.returns-in-Ok-plans_on-clause-opened
returns-in-Ok-plans_on-clause-opened g c = (c.in-Ok-plans_on.ensures.opened (g.D.Disk.told c.args.out_disk) c.in-Ok.ensures.opened.0, c.in-Ok.ensures.opened.1)

pub returns-in-Ok-plans_on-clause-goes_on : goal.returns-in-Ok-plans_on-clause-goes_on
returns-in-Ok-plans_on-clause-goes_on g c = c.in-Ok-plans_on.ensures.goes_on (g.D.Disk.told c.args.out_disk) c.in-Ok.ensures.opened.0
