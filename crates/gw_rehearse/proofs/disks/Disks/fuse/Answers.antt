use Rattle.gw_rehearse.proofs.Opening.{leaves_fused}
use Rattle.gw_rehearse.proofs.disks.Disks.fuse.Goals as goal

pub returns : goal.returns
returns c = record {
  outbox = leaves_fused c.args.self.outbox c.fuse.new.self c.args.calls c.fuse.ensures.after;
  inbox = leaves_fused c.args.self.inbox c.fuse-2.new.self c.args.calls c.fuse-2.ensures.after;
}
