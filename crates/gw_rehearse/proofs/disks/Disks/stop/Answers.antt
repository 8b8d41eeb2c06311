use Rattle.gw_rehearse.proofs.Opening.{leaves_stopped}
use Rattle.gw_rehearse.proofs.disks.Disks.stop.Goals as goal

pub returns : goal.returns
returns c = record {
  outbox = leaves_stopped c.args.self.outbox c.stop.result c.args.pick c.stop.ensures.after c.stop.ensures.image;
  inbox = leaves_stopped c.args.self.inbox c.stop-2.result c.args.pick c.stop-2.ensures.after c.stop-2.ensures.image;
}
