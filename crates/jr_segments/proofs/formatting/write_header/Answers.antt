use Rattle.std.proofs.Common.{refl, ◌∙◌}
use Rattle.jr_segments.proofs.Headers.{closed_header, torn_twice, header_stands}
use Rattle.jr_segments.proofs.formatting.write_header.Goals as goal

pub returns-in_err-write_at-2-clause-images : goal.returns-in_err-write_at-2-clause-images
returns-in_err-write_at-2-clause-images g c =
    torn_twice _ (g.D.Disk.told c.write_at.new.self) closed_header refl c.in_ok-write_at.ensures.content _ (g.D.Disk.may_leave c.sync.new.self) _ (g.met.D.Disk.told_is_left c.args.disk.now) c.in_ok-sync.ensures.settled c.write_at-2.ensures.images

pub returns-in_err-sync-2-clause-images : goal.returns-in_err-sync-2-clause-images
returns-in_err-sync-2-clause-images g c image left =
    torn_twice _ (g.D.Disk.told c.write_at.new.self) closed_header refl c.in_ok-write_at.ensures.content _ (g.D.Disk.may_leave c.sync.new.self) (g.D.Disk.may_leave c.write_at-2.new.self) (g.met.D.Disk.told_is_left c.args.disk.now) c.in_ok-sync.ensures.settled c.write_at-2.ensures.images
    image ((c.in_err-sync-2.ensures.images image).0 left)

pub returns-clause-ok : goal.returns-clause-ok
returns-clause-ok g c image left =
    header_stands _ (g.D.Disk.told c.sync.new.self) (g.D.Disk.told c.write_at-2.new.self) (c.sync.ensures.content ∙ c.in_ok-write_at.ensures.content) c.in_ok-write_at-2.ensures.content image (c.in_ok-sync-2.ensures.settled image left)

pub returns-clause-images : goal.returns-clause-images
returns-clause-images g c image left =
    torn_twice _ (g.D.Disk.told c.write_at.new.self) closed_header refl c.in_ok-write_at.ensures.content _ (g.D.Disk.may_leave c.sync.new.self) (g.D.Disk.may_leave c.write_at-2.new.self) (g.met.D.Disk.told_is_left c.args.disk.now) c.in_ok-sync.ensures.settled c.write_at-2.ensures.images
    image (g.met.D.Disk.told_is_left c.write_at-2.new.self image (c.in_ok-sync-2.ensures.settled image left))
