-- What a disk leaves of which a journal was opened, where nothing was written.
use Rattle.std.proofs.Common.{◌≡◌, ℕ, List, [], Option, Some, None, IsSomeAnd, refl, sym, ap, ◌∙◌, subst}
use Rattle.std.proofs.lemmas.List.{map-append}
use Rattle.std.specs.Option.{ForSome}
use Rattle.session_model.specs.Journal.{History}
use Rattle.session_model.specs.Lives.{IsImage}
use Rattle.jr_record.specs.declared.record.Record.{Record}
use Rattle.jr_dated.specs.declared.journal.Journal.{Ghosts}
use Rattle.jr_dated.specs.Dated.{Dated, undated}
use Rattle.jr_dated.specs.Images.{Leaves as LeavesDated}
use Rattle.jr_dated.specs.Journals.{Holds}
use Rattle.jr_boxes.specs.Outboxes.{records_of_history}
use Rattle.jr_boxes.specs.Inboxes.{records_of_inbox}
use Rattle.jr_kept.specs.declared.outbox.Outbox.{Outbox}
use Rattle.jr_kept.specs.declared.inbox.Inbox.{Inbox}
use Rattle.jr_kept.specs.Outbox as outboxes
use Rattle.jr_kept.specs.Inbox as inboxes
use Rattle.jr_kept.proofs.Held.{none_late}
use Rattle.cmd_session.specs.Journals.{IsJournal}
use Rattle.cmd_session.specs.Lived.{LeavesImages, KeepsRecords, OpensOutbox, OpensInbox}

-- an image of dated records, without their moments
undated_image : (closing refused image : List Dated) → IsImage closing refused image → IsImage (undated closing) (undated refused) (undated image)
undated_image closing refused image i = record {
  kept = undated i.kept;
  beginning = (undated i.beginning.0, sym (map-append (λ (d : Dated). d.what) i.kept i.beginning.0) ∙ ap (λ (ds : List Dated). undated ds) i.beginning.1);
  holds = ap (λ (ds : List Dated). undated ds) i.holds ∙ map-append (λ (d : Dated). d.what) closing i.kept;
}

undated_left : (may_leave : List ℕ → Type 0) (closing refused : List Dated) → ((image : Option (List Dated)) → LeavesDated may_leave image → IsSomeAnd image (IsImage closing refused))
    → LeavesImages may_leave (undated closing) (undated refused)
undated_left may_leave closing refused images (Some records) left =
    subst (λ (rs : List Record). IsImage (undated closing) (undated refused) rs) left.2.2 (undated_image closing refused left.2.0 (images (Some left.2.0) (left.0, left.1, left.2.1)))
undated_left may_leave closing refused images None left = images None (left.0, left.1, λ ds is. left.2 (undated ds) (ds, is, refl))

-- what a disk leaves holds records, where each image with moments holds them
pub left_images : (may_leave : List ℕ → Type 0) (closing refused : List Dated) (cs rs : List Record) → undated closing ≡ cs → undated refused ≡ rs
    → ((image : Option (List Dated)) → LeavesDated may_leave image → IsSomeAnd image (IsImage closing refused)) → LeavesImages may_leave cs rs
left_images may_leave closing refused cs rs bare bare_late images =
    subst (λ (xs : List Record). LeavesImages may_leave xs rs) bare (subst (λ (xs : List Record). LeavesImages may_leave (undated closing) xs) bare_late (undated_left may_leave closing refused images))

module _ {J : Type 0} {H : Ghosts J} where
  -- what it holds it stands for
  pub standing : (box : Outbox J H) (h : History) → outboxes.HoldsBox box h [] → outboxes.StandsFor box h
  standing box h held = record { dated = held.dated; bare = held.bare; journal = held.journal.stands_for; outbox = held.outbox; tallied = held.tallied }

module _ {D J : Type 0} (told : D → Option (List ℕ)) (may_leave : D → List ℕ → Type 0) (disk_at : J → D) where
  -- a journal holds the records that its disk told
  pub records_kept : (stands : J → List Dated → Type 0) (leaves : J → Option (List Dated) → Type 0) (before after : D) (j : J) (dated : List Dated) (records : List Record)
      → undated dated ≡ records → ForSome (told before) (λ content. IsJournal content records) → Holds stands leaves j dated []
      → ((image : Option (List Dated)) → LeavesDated (may_leave (disk_at j)) image → leaves j image) → after ≡ disk_at j
      → KeepsRecords told may_leave before after
  records_kept stands leaves before after j dated records bare held holds leaves_are same = record {
    records = records;
    held = held;
    left = left_images (may_leave after) dated [] records [] bare refl (λ image left. holds.images image (leaves_are image (subst (λ (d : D). LeavesDated (may_leave d) image) same left)));
  }

  module _ {H : Ghosts J} where
    -- a box that changed nothing leaves what its disk held
    pub held_kept : (box : Outbox J H) (before after : D) (h : History) → outboxes.HoldsBox box h [] → ForSome (told before) (λ content. IsJournal content (records_of_history h))
        → ((image : Option (List Dated)) → LeavesDated (may_leave (disk_at (outboxes.journal_of box))) image → H.leaves (outboxes.journal_of box) image)
        → after ≡ disk_at (outboxes.journal_of box) → KeepsRecords told may_leave before after
    held_kept box before after h holds held leaves_are same =
        records_kept H.stands H.leaves before after (outboxes.journal_of box) holds.dated (records_of_history h) holds.bare held
        (subst (λ (late : List Dated). Holds H.stands H.leaves (outboxes.journal_of box) holds.dated late) (none_late holds.late holds.bare_late) holds.journal) leaves_are same

    pub outbox_kept : (box : Outbox J H) (before after : D) → OpensOutbox (told before) box
        → ((image : Option (List Dated)) → LeavesDated (may_leave (disk_at (outboxes.journal_of box))) image → H.leaves (outboxes.journal_of box) image)
        → after ≡ disk_at (outboxes.journal_of box) → KeepsRecords told may_leave before after
    outbox_kept box before after o leaves_are same = held_kept box before after o.history o.holds (o.told o.history (standing box o.history o.holds)) leaves_are same

    pub inbox_kept : (box : Inbox J H) (before after : D) → OpensInbox (told before) box
        → ((image : Option (List Dated)) → LeavesDated (may_leave (disk_at (inboxes.journal_of box))) image → H.leaves (inboxes.journal_of box) image)
        → after ≡ disk_at (inboxes.journal_of box) → KeepsRecords told may_leave before after
    inbox_kept box before after i leaves_are same =
        records_kept H.stands H.leaves before after (inboxes.journal_of box) i.holds.dated (records_of_inbox i.inbox) i.holds.bare i.told
        (subst (λ (late : List Dated). Holds H.stands H.leaves (inboxes.journal_of box) i.holds.dated late) (none_late i.holds.late i.holds.bare_late) i.holds.journal) leaves_are same
