-- What stops leave of the disks of an end (this project's profile).
use Rattle.std.specs.Prelude.{◌≡◌, ◌<◌, ◌^◌, List, length, Option, IsTrue, IsSomeAnd}
use Rattle.session_model.specs.Journal.{History}
use Rattle.session_model.specs.Inbox.{InboxRecord}
use Rattle.session_model.specs.Lives.{IsImage}
use Rattle.gw_fakes.specs.Disks.{is_left}
use Rattle.gw_fakes.specs.MemDisks.{state_of}
use Rattle.gw_fakes.specs.declared.disk.MemDisk.{MemDisk}
use Rattle.jr_record.specs.declared.record.Record.{Record}
use Rattle.jr_dated.specs.Dated.{Dated, undated}
use Rattle.jr_dated.specs.Images.{Leaves}
use Rattle.jr_dated.specs.declared.journal.Journal.{Ghosts}
use Rattle.fixp_msgs.specs.declared.flow.Flow.{Flow}
use Rattle.gate_senders.specs.Gate.{opening_of}
use Rattle.jr_boxes.specs.Outboxes.{IsOutbox, outbox_of, records_of_history}
use Rattle.jr_boxes.specs.Inboxes.{records_of_inbox}
use Rattle.jr_kept.specs.declared.outbox.Outbox.{Outbox}
use Rattle.jr_kept.specs.Outbox as outboxes
use Rattle.jr_kept.specs.declared.inbox.Inbox.{Inbox}
use Rattle.jr_kept.specs.Inbox as inboxes
use Rattle.gw_rehearse.specs.declared.disks.Disks.{Disks}
use Rattle.gw_rehearse.specs.declared.end.DrivenEnd.{DrivenEnd}
use Rattle.gw_rehearse.specs.Driven.{BeginsOn}

-- whatever records a stop leaves of a disk in memory are the closing ones, and behind them a beginning of those that were refused
abbrev pub LeavesImages : MemDisk → (closing refused : List Dated) → Type 0
LeavesImages disk closing refused = (image : Option (List Dated)) → Leaves (λ content. IsTrue (is_left (state_of disk).synced (state_of disk).pending content)) image
    → IsSomeAnd image (IsImage closing refused)

-- a disk that was only looked at, or stopped, leaves no more than it might have left
abbrev pub LeavesNoMore : (before after : MemDisk) → Type 0
LeavesNoMore before after = (closing refused : List Dated) → LeavesImages before closing refused → LeavesImages after closing refused

-- these records, each with some moment, are such an image
pub record IsLeft (closing refused : List Dated) (records : List Record) : Type 0 where
  pub dated : List Dated
  pub bare : undated dated ≡ records
  pub image : IsImage closing refused dated

module _ {J : Type 0} {G : Ghosts J} where
  -- what a box over a disk stands for is what a stop left of that
  abbrev pub OutboxIsLeft : MemDisk → Outbox J G → Type 0
  OutboxIsLeft disk box = (closing refused : List Dated) → LeavesImages disk closing refused → (h : History) → outboxes.StandsFor box h → IsLeft closing refused (records_of_history h)

  abbrev pub InboxIsLeft : MemDisk → Inbox J G → Type 0
  InboxIsLeft disk box = (closing refused : List Dated) → LeavesImages disk closing refused → (i : List InboxRecord) → inboxes.StandsFor box i → IsLeft closing refused (records_of_inbox i)

-- neither disk of an end leaves more than it might have left
pub record DisksLeaveNoMore (before after : Disks) : Type 0 where
  pub outbox : LeavesNoMore before.outbox after.outbox
  pub inbox : LeavesNoMore before.inbox after.inbox

-- A life of an end with these flows begins on what stops left of these disks: a history, which its gate opened with, and a list
pub record BeginsOnLeft (own peer : Flow) (disks : Disks) (e : DrivenEnd) : Type 0 where
  pub inbox : List InboxRecord
  pub begins : BeginsOn own peer (outbox_of (opening_of e.gate).history) inbox e
  pub history : IsOutbox (records_of_history (opening_of e.gate).history) (opening_of e.gate).history
  pub few : length (opening_of e.gate).history.made < 2 ^ 40
  pub outbox_left : (closing refused : List Dated) → LeavesImages disks.outbox closing refused → IsLeft closing refused (records_of_history (opening_of e.gate).history)
  pub inbox_left : (closing refused : List Dated) → LeavesImages disks.inbox closing refused → IsLeft closing refused (records_of_inbox inbox)
