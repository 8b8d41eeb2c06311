use Rattle.std.proofs.lemmas.Result.{err_from_is_err_and}
use Rattle.jr_log.proofs.Written.{first_stands, first_torn}
use Rattle.jr_log.proofs.laying.begin.Goals as goal

pub returns-in_err-write_at-clause-left : goal.returns-in_err-write_at-clause-left
returns-in_err-write_at-clause-left g c =
    let p = err_from_is_err_and c.from_residual.result c.from_residual.ensures.1 in
    rw p.1 (first_torn c.args.records.now c.requires.legal (g.D.Disk.told c.args.disk.now) (g.D.Disk.may_leave c.args.disk.now) c.requires.laid c.requires.settled (g.D.Disk.may_leave c.write_at.new.self) c.write_at.ensures.images)

pub returns-in_err-sync-clause-left : goal.returns-in_err-sync-clause-left
returns-in_err-sync-clause-left g c =
    let p = err_from_is_err_and c.from_residual-in_err-sync.result c.from_residual-in_err-sync.ensures.1 in
    rw p.1 (λ image left.
    first_torn c.args.records.now c.requires.legal (g.D.Disk.told c.args.disk.now) (g.D.Disk.may_leave c.args.disk.now) c.requires.laid c.requires.settled (g.D.Disk.may_leave c.write_at.new.self) c.write_at.ensures.images
    image ((c.in_err-sync.ensures.images image).0 left))

pub returns-clause-whole : goal.returns-clause-whole
returns-clause-whole g c image left =
    first_stands c.args.records.now c.requires.legal (g.D.Disk.told c.args.disk.now) (g.D.Disk.may_leave c.args.disk.now) c.requires.laid c.requires.settled (g.D.Disk.told c.write_at.new.self) c.in_ok-write_at.ensures.content
    image (c.in_ok-sync.ensures.settled image left)
