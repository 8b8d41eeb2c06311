-- What `format` makes of the disks of the two journals (this project's profile).
use Rattle.std.specs.Prelude.{◌≡◌, ◌≢◌, ◌⊎◌, ℕ, List, [], take, Option}
use Rattle.std.specs.Option.{ForSome}
use Rattle.gw_outside.specs.Disk.{Follows, LeavesSame, Torn}
use Rattle.gw_outside.specs.Faults.{HasRisen}
use Rattle.jr_record.specs.Images.{magic as plain_magic}
use Rattle.jr_dated.specs.Images.{magic, IsJournal}
use Rattle.jr_boxes.specs.declared.faults.Which.TheVariants.{Outbox, Inbox}
use Rattle.jr_boxes.specs.declared.faults.JournalCause.TheVariants.{Already}
use Rattle.cmd_base.specs.declared.status.Status.{Status}
use Rattle.cmd_base.specs.declared.status.Status.TheVariants.{Done, JournalFault, JournalBad}
use Rattle.cmd_base.specs.Contents.{Disks}
use Rattle.cmd_journal.specs.Moves.{KeepsOld}

-- a disk was made a journal without records: it did not begin with the magic of either format, and each content that a stop may leave of it
-- is such a journal
pub record IsMade {D : Type 0} (told : D → Option (List ℕ)) (may_leave : D → List ℕ → Type 0) (before after : D) : Type 0 where
  pub fresh : ForSome (told before) (λ content. (take 8 content ≢ magic) × (take 8 content ≢ plain_magic))
  pub empty : (image : List ℕ) → may_leave after image → IsJournal image []

-- a disk begins with the magic of either format, and is as it was
pub record IsAlready {D : Type 0} (told : D → Option (List ℕ)) (may_leave : D → List ℕ → Type 0) (before after : D) : Type 0 where
  pub begins : ForSome (told before) (λ content. (take 8 content ≡ magic) ⊎ (take 8 content ≡ plain_magic))
  pub content : told after ≡ told before
  pub images : LeavesSame (may_leave before) (may_leave after)

-- a disk that begins with the magic of either format tells what it told, and a stop leaves nothing of it that it might not have left before
abbrev pub KeepsJournal : {D : Type 0} → (D → Option (List ℕ)) → (D → List ℕ → Type 0) → D → D → Type 0
KeepsJournal told may_leave before after =
    ForSome (told before) (λ content. (take 8 content ≡ magic) ⊎ (take 8 content ≡ plain_magic) → KeepsOld told may_leave before after)

-- of a disk at most the first 17 bytes changed: the header and the closed byte
abbrev pub KeepsBehindHeader : {D : Type 0} → (D → List ℕ → Type 0) → D → D → Type 0
KeepsBehindHeader may_leave before after = Follows (Torn 0 17) (may_leave before) (may_leave after)

-- the device of the outbox failed, and the inbox is untouched
pub record FailsAtOutbox {D : Type 0} (faults : D → ℕ) (before after : Disks D) : Type 0 where
  pub cause : HasRisen (faults before.outbox) (faults after.outbox)
  pub inbox : after.inbox ≡ before.inbox

-- the outbox was made, and the device of the inbox failed
pub record FailsAtInbox {D : Type 0} (told : D → Option (List ℕ)) (may_leave : D → List ℕ → Type 0) (faults : D → ℕ) (before after : Disks D) : Type 0 where
  pub outbox : IsMade told may_leave before.outbox after.outbox
  pub cause : HasRisen (faults before.inbox) (faults after.inbox)

-- What a status says of both disks: the outbox is made first, and where it is not the inbox is untouched
abbrev pub Formats : {D : Type 0} → (D → Option (List ℕ)) → (D → List ℕ → Type 0) → (D → ℕ) → Disks D → Disks D → Status → Type 0
Formats told may_leave faults before after Done = IsMade told may_leave before.outbox after.outbox × IsMade told may_leave before.inbox after.inbox
Formats told may_leave faults before after (JournalBad Outbox Already) = IsAlready told may_leave before.outbox after.outbox × (after.inbox ≡ before.inbox)
Formats told may_leave faults before after (JournalBad Inbox Already) = IsMade told may_leave before.outbox after.outbox
    × IsAlready told may_leave before.inbox after.inbox
Formats told may_leave faults before after JournalFault = FailsAtOutbox faults before after ⊎ FailsAtInbox told may_leave faults before after
Formats told may_leave faults before after _ = ⊥
