-- What each refusal of a move says of both disks.
use Rattle.std.proofs.Common.{◌≡◌, ◌⊎◌, inl, inr, ℕ, List, Option, Result, Err, refl}
use Rattle.std.specs.Option.{ForSome}
use Rattle.gw_outside.specs.Faults.{HasRisen}
use Rattle.jr_record.specs.declared.record.Record.{Record}
use Rattle.jr_record.specs.Images.{IsJournal as IsPlainJournal}
use Rattle.jr_log.specs.Fresh.{IsFresh, IsUsed}
use Rattle.jr_log.specs.Migrates.{IsBehindOld, IsPast, OnUnwritten, RefusesOld}
use Rattle.jr_log.specs.declared.faults.MigrateFault.{MigrateFault}
use Rattle.jr_log.specs.declared.faults.MigrateFault.TheVariants.{Memory, OldFault, NotFormatted, Damaged, NewFault, NotFresh, Full}
use Rattle.cmd_base.specs.Contents.{Disks}
use Rattle.cmd_journal.specs.Moves.{Moves, status_of}

module _ {D : Type 0} (T : Type 0) (told : D → Option (List ℕ)) (may_leave : D → List ℕ → Type 0) (faults : D → ℕ) (before after : Disks D) where
  pub moved : (fault : MigrateFault) → ForSome (told before.outbox) (RefusesOld fault)
      → (IsBehindOld fault → (records : List Record) × ForSome (told before.outbox) (λ content. IsPlainJournal content records))
      → (fault ≡ NotFresh → ForSome (told before.inbox) IsUsed)
      → ((entries bytes : ℕ) → fault ≡ Full entries bytes → ForSome (told before.inbox) IsFresh × ForSome (told before.outbox) (IsPast entries bytes))
      → OnUnwritten {T = T} (Err fault) (told after.inbox ≡ told before.inbox)
      → OnUnwritten {T = T} (Err fault) ((image : List ℕ) → may_leave after.inbox image → may_leave before.inbox image)
      → (fault ≡ OldFault → HasRisen (faults before.outbox) (faults after.outbox)) → (fault ≡ NewFault → HasRisen (faults before.inbox) (faults after.inbox))
      → Moves told may_leave faults before after (status_of fault)
  moved Memory refused behind stale full content images old new = tt
  moved OldFault refused behind stale full content images old new = inl (record { why = old refl; new = record { content = content; images = images } })
  moved NotFormatted refused behind stale full content images old new = record { why = refused; new = record { content = content; images = images } }
  moved (Damaged at) refused behind stale full content images old new = record { why = refused; new = record { content = content; images = images } }
  moved NewFault refused behind stale full content images old new =
      let was = behind tt in
      inr (record { old = record { records = was.0; journal = was.1 }; why = new refl })
  moved NotFresh refused behind stale full content images old new =
      let was = behind tt in
      record { why = record { old = record { records = was.0; journal = was.1 }; why = stale refl }; new = record { content = content; images = images } }
  moved (Full entries bytes) refused behind stale full content images old new = record { why = full entries bytes refl; new = record { content = content; images = images } }
