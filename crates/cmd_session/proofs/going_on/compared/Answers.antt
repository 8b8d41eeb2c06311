use Rattle.std.proofs.Common.{ℕ, List, map, length, Err, ap, subst}
use Rattle.plan_values.specs.Plans.{payloads_of}
use Rattle.plan_values.specs.declared.plan.Plan.{Plan}
use Rattle.plan_outbox.specs.Behind.{GoesOnFrom, IsPastAt}
use Rattle.jr_segments.specs.Journal.{disk_of}
use Rattle.cmd_session.proofs.GoingOn.{past_told, still_opens, found_none, found_some}
use Rattle.cmd_session.proofs.Kept.{standing, outbox_kept}
use Rattle.cmd_session.proofs.going_on.compared.Goals as goal

pub returns-in-Ok-None-clause-goes_on : goal.returns-in-Ok-None-clause-goes_on
returns-in-Ok-None-clause-goes_on g c = λ told o content is h stands.
    let on = found_none c.in-Ok-None.field-0 _ c.in-Ok-None.field-0-is c.in-Ok-None.ensures.goes_on (o.is_told content is) h ((c.first_past.ensures.read.content.stands h).1 stands) in
    subst (λ (ps : List Plan). GoesOnFrom (map payloads_of ps) h) c.as_slice-2.ensures.value on

pub returns-in-Ok-None-clause-opened : goal.returns-in-Ok-None-clause-opened
returns-in-Ok-None-clause-opened g c = λ told o. still_opens told c.args.outbox c.first_past.new.outbox c.first_past.ensures.read o

pub returns-in-Ok-Some-clause-refused : goal.returns-in-Ok-Some-clause-refused
returns-in-Ok-Some-clause-refused g c = λ input told read o.
    let plans : List Plan = c.args.given.now.plans.items in
    let line : ℕ = c.in-Ok-Some.line in
    let stands = standing c.args.outbox o.history o.holds in
    past_told told input c.args.given.now.text.items (length plans) line o.history (o.told o.history stands) read (λ content is.
    let past = found_some c.in-Ok-Some.field-0 line _ c.in-Ok-Some.field-0-is c.in-Ok-Some.ensures.past (o.is_told content is) o.history stands in
    subst (λ (t : List ℕ). IsPastAt o.history (length plans) t line) c.as_slice.ensures.value
    (subst (λ (ps : List Plan). IsPastAt o.history (length ps) c.as_slice.result.now line) c.as_slice-2.ensures.value past))

pub returns-in-Ok-Some-clause-kept : goal.returns-in-Ok-Some-clause-kept
returns-in-Ok-Some-clause-kept g c = λ before o.
    let read = c.first_past.new.outbox in
    outbox_kept g.D.Disk.told g.D.Disk.may_leave (disk_of {G = g.D.Disk}) read before _ (still_opens (g.D.Disk.told before) c.args.outbox read c.first_past.ensures.read o) (λ image h. h) c.close_outbox.ensures.disk

pub returns-in-Err-clause-kept : goal.returns-in-Err-clause-kept
returns-in-Err-clause-kept g c = λ before o.
    let read = c.first_past.new.outbox in
    outbox_kept g.D.Disk.told g.D.Disk.may_leave (disk_of {G = g.D.Disk}) read before _ (still_opens (g.D.Disk.told before) c.args.outbox read c.first_past.ensures.read o) (λ image h. h) c.close_outbox-in-Err.ensures.disk

pub returns-in-Err-clause-refused : goal.returns-in-Err-clause-refused
returns-in-Err-clause-refused g c = λ input told read o.
    c.not_read.ensures.refused (length c.args.given.now.plans.items) input told (λ at is content there. c.in-Err.ensures.changed at (ap (λ f. Err f) is) (o.is_told content there))

pub not_read-requires : goal.not_read-requires
not_read-requires g c = record { sound = λ is. c.in-Err.ensures.whole (ap (λ f. Err f) is) }
