use Rattle.std.proofs.Common.{inl, inr, refl}
use Rattle.jr_segments.specs.Journal.{disk_of}
use Rattle.cmd_session.proofs.Kept.{outbox_kept}
use Rattle.cmd_session.proofs.command.open_boxes.Goals as goal

pub returns-in-Err-clause-refused : goal.returns-in-Err-clause-refused
returns-in-Err-clause-refused g c = inl (record { refused = c.in-Err.ensures.refused c.args.flow; cause = c.in-Err.ensures.cause; outbox_kept = c.in-Err.ensures.kept; inbox_is = refl })

pub returns-in-Err-open_inbox-clause-refused : goal.returns-in-Err-open_inbox-clause-refused
returns-in-Err-open_inbox-clause-refused g c = inr (record {
  outbox = c.in-Ok.ensures.told c.args.flow;
  refused = c.in-Err-open_inbox.ensures.refused;
  cause = c.in-Err-open_inbox.ensures.cause;
  outbox_kept = outbox_kept g.D.Disk.told g.D.Disk.may_leave (disk_of {G = g.D.Disk}) c.in-Ok.outbox c.args.out_disk _ c.in-Ok.ensures.opened (λ image h. h) c.close_outbox.ensures.disk;
  inbox_kept = c.in-Err-open_inbox.ensures.kept;
})
