use Rattle.std.proofs.Common.{List, subst, rules}
use Rattle.jr_record.specs.declared.record.Record.{Record}
use Rattle.jr_segments.proofs.Fitting.{Looked, begin, one_more}
use Rattle.jr_segments.proofs.adding.count_fitting.Goals as goal

pub loop-r-init : goal.loop-r-init
loop-r-init c = begin _ _ _ _ (search rules) c.requires.legal

pub loop-r-preserved : goal.loop-r-preserved
loop-r-preserved c =
    let looked = subst (λ (rs : List Record). Looked c.args.limits c.args.size c.loop-r.room c.args.records.now rs) c.in-Some.ensures.cases.0 c.loop-r.invariant in
    one_more c.args.limits c.args.size c.loop-r.room c.args.records.now c.in-Some.behind.now c.in-Some.r.now looked c.is_past.result _ c.is_past.ensures.value c.if-is_past.false (search rules)
