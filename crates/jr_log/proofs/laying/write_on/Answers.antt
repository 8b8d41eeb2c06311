use Rattle.std.proofs.Common.{length}
use Rattle.std.proofs.lemmas.Result.{on_ok_weaker}
use Rattle.jr_log.proofs.Written.{keeps_first, wrote_on}
use Rattle.jr_log.proofs.laying.write_on.Goals as goal

pub returns-clause-cleared : goal.returns-clause-cleared
returns-clause-cleared g c =
    keeps_first c.args.at (length c.args.bytes.now) c.requires.behind (g.D.Disk.may_leave c.args.disk.now) (g.D.Disk.may_leave c.write_at.new.self) c.requires.cleared c.write_at.ensures.images

pub returns-clause-laid : goal.returns-clause-laid
returns-clause-laid g c =
    on_ok_weaker c.write_at.result (λ is done place laid. wrote_on (g.D.Disk.told c.args.disk.now) (g.D.Disk.told c.write_at.new.self) c.args.bytes.now c.args.at is done place laid) c.write_at.ensures.content
