use Rattle.std.proofs.Common.{◌⊎◌, List, ℕ, subst}
use Rattle.jr_record.specs.declared.record.Record.{Record}
use Rattle.jr_record.proofs.Verdicts.{at_most_one_verdict}
use Rattle.jr_log.specs.Migrates.{IsLeft}
use Rattle.jr_log.proofs.migrating.migrate.Goals as goal

pub returns-clause-left : goal.returns-clause-left
returns-clause-left g c fresh content has records journal image left =
    let same = at_most_one_verdict.one_list content c.in-Ok.found.records.items records (c.in-Ok.ensures.list content has) journal in
    subst (λ (rs : List Record). IsLeft rs image ⊎ g.B.Disk.may_leave c.args.new.now image) same (c.move_records.ensures.left fresh image left)
