use Rattle.std.proofs.Common.{◌≡◌, List, length, take, sym, ◌∙◌, ap, subst, arith, rules}
use Rattle.std.proofs.lemmas.List.{length-take-le, take_all}
use Rattle.std.specs.List.{AllByRecursion}
use Rattle.jr_record.specs.declared.record.Record.{Record}
use Rattle.jr_record.specs.Records.{IsRecord}
use Rattle.jr_dated.specs.Journals.{fitting}
use Rattle.jr_segments.specs.Journal.{HasAdded, HasFailed}
use Rattle.jr_segments.proofs.Appends.{same_unchanged, added_holds, failed_either}
use Rattle.jr_segments.proofs.Answering.{added_counts, taken_legal}
use Rattle.jr_segments.proofs.journal.SegJournalJournal.append_batch.Goals as goal

pub add-requires-clause-legal : goal.add-requires-clause-legal
add-requires-clause-legal g c =
    subst (AllByRecursion IsRecord) (sym c.split_at.ensures.front) (taken_legal c.count_fitting-count.result c.as_slice-records.result.now (subst (AllByRecursion IsRecord) (sym c.as_slice-records.ensures) c.requires.legal))

pub returns-in-Err-Memory-clause-unchanged : goal.returns-in-Err-Memory-clause-unchanged
returns-in-Err-Memory-clause-unchanged g c =
    let same = rw c.in-Err-Memory.field-0-is at c.in-Err-Memory.ensures.memory in
    (same_unchanged g.met.D.Disk.told_is_left c.args.self.now c.add.new.self same, ap g.D.Disk.faults same.disk)

pub returns-in-Err-Fault-clause-fault : goal.returns-in-Err-Fault-clause-fault
returns-in-Err-Fault-clause-fault g c h holds =
    let j = c.args.self.now in
    let fits_are : c.split_at.result.0.now ≡ fitting j.limits j.size c.args.batch.now = c.split_at.ensures.front ∙ c.count_fitting-count.ensures.front ∙ ap (λ (rs : List Record). fitting j.limits j.size rs) c.as_slice-records.ensures in
    let is = rw c.in-Err-Fault.field-0-is at c.in-Err-Fault.ensures.fault in
    let failed = subst (λ (xs : List Record). HasFailed j c.add.new.self xs) fits_are is in
    failed_either g.met.D.Disk.told_is_left j c.add.new.self (fitting j.limits j.size c.args.batch.now) (j.held c.if-self.false) failed h holds

pub returns-in-Err-Fault-clause-never_falls : goal.returns-in-Err-Fault-clause-never_falls
returns-in-Err-Fault-clause-never_falls g c =
    let failed = rw c.in-Err-Fault.field-0-is at c.in-Err-Fault.ensures.fault in failed.never_falls

pub returns-then-count-records-clause-full : goal.returns-then-count-records-clause-full
returns-then-count-records-clause-full g c h holds =
    let j = c.args.self.now in
    let rs = fitting j.limits j.size c.args.batch.now in
    let fits_are : c.split_at.result.0.now ≡ rs = c.split_at.ensures.front ∙ c.count_fitting-count.ensures.front ∙ ap (λ (xs : List Record). fitting j.limits j.size xs) c.as_slice-records.ensures in
    let added = subst (λ (xs : List Record). HasAdded j c.add.new.self xs) fits_are c.in-Ok.ensures.ok in
    let all = taken_legal c.count_fitting-count.result c.as_slice-records.result.now (subst (AllByRecursion IsRecord) (sym c.as_slice-records.ensures) c.requires.legal) in
    let legal = subst (AllByRecursion IsRecord) (sym c.split_at.ensures.front ∙ fits_are) all in
    added_holds g.met.D.Disk.told_is_left j c.add.new.self rs (j.held c.if-self.false) added legal h holds

pub returns-then-count-records-clause-cut : goal.returns-then-count-records-clause-cut
returns-then-count-records-clause-cut g c same =
    let count = c.count_fitting-count.result in
    let records = c.as_slice-records.result.now in
    let taken : take count records ≡ records = c.count_fitting-count.ensures.front ∙ ap (λ (xs : List Record). fitting c.args.self.now.limits c.args.self.now.size xs) c.as_slice-records.ensures ∙ same ∙ sym c.as_slice-records.ensures in
    omega (arith, ap length taken, length-take-le count records c.count_fitting-count.ensures.within)

pub returns-then-count-records-clause-grown : goal.returns-then-count-records-clause-grown
returns-then-count-records-clause-grown g c =
    let j = c.args.self.now in
    let rs = fitting j.limits j.size c.args.batch.now in
    let fits_are : c.split_at.result.0.now ≡ rs = c.split_at.ensures.front ∙ c.count_fitting-count.ensures.front ∙ ap (λ (xs : List Record). fitting j.limits j.size xs) c.as_slice-records.ensures in
    let added = subst (λ (xs : List Record). HasAdded j c.add.new.self xs) fits_are c.in-Ok.ensures.ok in
    record { records = added_counts j c.add.new.self rs added; bytes = added.size }

pub returns-clause-ok : goal.returns-clause-ok
returns-clause-ok g c h holds =
    let j = c.args.self.now in
    let rs = c.args.batch.now in
    let records = c.as_slice-records.result.now in
    let fits_are : c.split_at.result.0.now ≡ rs = c.split_at.ensures.front ∙ take_all c.count_fitting-count.result records (search rules) ∙ c.as_slice-records.ensures in
    let added = subst (λ (xs : List Record). HasAdded j c.add.new.self xs) fits_are c.in-Ok.ensures.ok in
    added_holds g.met.D.Disk.told_is_left j c.add.new.self rs (j.held c.if-self.false) added c.requires.legal h holds

pub returns-clause-whole : goal.returns-clause-whole
returns-clause-whole g c =
    let j = c.args.self.now in
    let records = c.as_slice-records.result.now in
    sym (ap (λ (xs : List Record). fitting j.limits j.size xs) c.as_slice-records.ensures) ∙ sym c.count_fitting-count.ensures.front
    ∙ take_all c.count_fitting-count.result records (search rules) ∙ c.as_slice-records.ensures

pub returns-clause-grown : goal.returns-clause-grown
returns-clause-grown g c =
    let j = c.args.self.now in
    let rs = fitting j.limits j.size c.args.batch.now in
    let fits_are : c.split_at.result.0.now ≡ rs = c.split_at.ensures.front ∙ c.count_fitting-count.ensures.front ∙ ap (λ (xs : List Record). fitting j.limits j.size xs) c.as_slice-records.ensures in
    let added = subst (λ (xs : List Record). HasAdded j c.add.new.self xs) fits_are c.in-Ok.ensures.ok in
    record { records = added_counts j c.add.new.self rs added; bytes = added.size }
