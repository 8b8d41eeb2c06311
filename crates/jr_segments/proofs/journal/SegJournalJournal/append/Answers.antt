use Rattle.std.proofs.Common.{◌∷◌, List, [], ap, subst, arith}
use Rattle.jr_record.specs.declared.record.Record.{Record}
use Rattle.jr_segments.specs.Journal.{HasAdded, HasFailed}
use Rattle.jr_segments.proofs.Appends.{same_unchanged, added_holds, failed_either}
use Rattle.jr_segments.proofs.Answering.{added_counts}
use Rattle.jr_segments.proofs.journal.SegJournalJournal.append.Goals as goal

pub returns-in-Ok-clause-ok : goal.returns-in-Ok-clause-ok
returns-in-Ok-clause-ok g c h holds =
    let j = c.args.self.now in
    let rs = c.args.r.now ∷ [] in
    let added = subst (λ (xs : List Record). HasAdded j c.add.new.self xs) c.from_ref.ensures.value c.in-Ok.ensures.ok in
    added_holds g.met.D.Disk.told_is_left j c.add.new.self rs (j.held c.if-self.false) added (c.requires.legal, tt) h holds

pub returns-in-Ok-clause-grown : goal.returns-in-Ok-clause-grown
returns-in-Ok-clause-grown g c =
    let j = c.args.self.now in
    let rs = c.args.r.now ∷ [] in
    let added = subst (λ (xs : List Record). HasAdded j c.add.new.self xs) c.from_ref.ensures.value c.in-Ok.ensures.ok in
    (added_counts j c.add.new.self rs added, omega (arith, added.size))

pub returns-in-Err-Memory-clause-unchanged : goal.returns-in-Err-Memory-clause-unchanged
returns-in-Err-Memory-clause-unchanged g c =
    let same = rw c.in-Err-Memory.field-0-is at c.in-Err-Memory.ensures.memory in
    (same_unchanged g.met.D.Disk.told_is_left c.args.self.now c.add.new.self same, ap g.D.Disk.faults same.disk)

pub returns-in-Err-Fault-clause-fault : goal.returns-in-Err-Fault-clause-fault
returns-in-Err-Fault-clause-fault g c h holds =
    let j = c.args.self.now in
    let rs = c.args.r.now ∷ [] in
    let is = rw c.in-Err-Fault.field-0-is at c.in-Err-Fault.ensures.fault in
    let failed = subst (λ (xs : List Record). HasFailed j c.add.new.self xs) c.from_ref.ensures.value is in
    failed_either g.met.D.Disk.told_is_left j c.add.new.self rs (j.held c.if-self.false) failed h holds

pub returns-in-Err-Fault-clause-never_falls : goal.returns-in-Err-Fault-clause-never_falls
returns-in-Err-Fault-clause-never_falls g c =
    let failed = rw c.in-Err-Fault.field-0-is at c.in-Err-Fault.ensures.fault in failed.never_falls
