-- Runs of two ends whose journals held something at first, as where a session was moved to journals of today, or taken up from a copy; and what may stand
-- between two runs (this project's profile).
use Rattle.std.specs.Prelude.{◌≡◌, ◌⊎◌, ℕ, ◌≤◌, ◌+◌, ◌^◌, false, List, [], flat_map, Option}
use Rattle.std.specs.List.{AllByRecursion}
use Rattle.session_model.specs.Journal.{Entry, History, BeginsHistory}
use Rattle.session_model.specs.Inbox.{InboxRecord, next_number}
use Rattle.fixp_msgs.specs.Payload.{IsApplication}
use Rattle.fixp_msgs.specs.declared.flow.Flow.{Flow}
use Rattle.fixp_shake.specs.declared.config.Role.{Role}
use Rattle.fixp_shake.specs.declared.config.Role.TheVariants.{Initiator, Acceptor}
use Rattle.two_ends.specs.GoingOn.{HoldsOn}
use Rattle.two_ends.specs.Meeting.{Holds}
use Rattle.jr_dated.specs.declared.journal.Journal.{Ghosts}
use Rattle.jr_boxes.specs.Outboxes.{records_of_history}
use Rattle.jr_boxes.specs.Inboxes.{records_of_inbox}
use Rattle.cmd_journal.specs.Formats.{IsAlready}
use Rattle.cmd_journal.specs.Moves.{KeepsOld}
use Rattle.cmd_session.specs.Journals.{IsJournal}
use Rattle.cmd_session.specs.Lived.{IsKept}
use Rattle.cmd_session.specs.Outsides.{Sees}
use Rattle.cmd_feed.specs.Outsides.{FeedSees}
use Rattle.run_laws.specs.Several.{Run, Flows, brought, RunsOver, WasRun}
use Rattle.run_laws.specs.Linked.{LinkedCarried, configs_by}

-- what both journals of an end hold: a history, and a list
pub record Held : Type 0 where
  pub history : History
  pub inbox : List InboxRecord

-- those of a new session
abbrev pub none_held : Held
none_held = record { history = record { made = []; finished = false }; inbox = [] }

-- a journal of a history, and one of a list
abbrev pub IsOutboxOf : Held → List ℕ → Type 0
IsOutboxOf held content = IsJournal content (records_of_history held.history)

abbrev pub IsInboxOf : Held → List ℕ → Type 0
IsInboxOf held content = IsJournal content (records_of_inbox held.inbox)

module _ {S K D N C : Type 0} where
  -- Both disks are kept, each by itself, and no link came back: of whatever stands between two runs, this is all that is asked
  pub record KeptBoth (sees : Sees S K D N C) (r : Run S K D N C) : Type 0 where
    pub outbox : IsKept sees.told sees.may_leave r.before.out_disk r.after.out_disk
    pub inbox : IsKept sees.told sees.may_leave r.before.in_disk r.after.in_disk
    pub links : brought sees r ≡ []

module _ {D : Type 0} where
  -- A disk is kept that is as it was, or was kept as `journal` and `migrate` keep those of theirs, or was found by `format` to be a journal already
  pub record KeptBetween (told : D → Option (List ℕ)) (may_leave : D → List ℕ → Type 0) : Type 0 where
    pub same : (before after : D) → after ≡ before → IsKept told may_leave before after
    pub read : (before after : D) → KeepsOld told may_leave before after → IsKept told may_leave before after
    pub refused : (before after : D) → IsAlready told may_leave before after → IsKept told may_leave before after

module _ {S I K A D N C J : Type 0} where
  -- All runs of an end whose journals held this at first, an inbox that awaits no number past the greatest and one more, with whatever kept both journals
  -- between them. Behind them a stop may leave, or leaves, journals that hold this, with payloads of application messages
  pub record HasRunFrom (G : Ghosts J) (sees : FeedSees S I K A D N C) (role : Role) (flows : Flows) (first : Held) (runs : List (Run S K D N C))
      (now : Held) : Type 0 where
    pub awaits : next_number first.inbox ≤ 2 ^ 26 + 1
    pub outbox : List ℕ
    pub inbox : List ℕ
    pub over : RunsOver sees.session (λ r. WasRun G sees role flows r ⊎ KeptBoth sees.session r) runs (IsOutboxOf first) (IsInboxOf first) outbox inbox
    pub outbox_is : IsOutboxOf now outbox
    pub inbox_is : IsInboxOf now inbox
    pub payloads : AllByRecursion (λ (e : Entry). IsApplication e.payload) now.history.made

-- Of an end that writes, and of one that reads, what each held at first and holds now. The outbox goes on from what it was. What the inbox adds is of the
-- outbox: of a recoverable flow the entries from the number on that was awaited, in order; of an idempotent one each number from there on once, applied or told to be
-- missing; of one without numbers only entries that came behind the first ones, in order, and nothing twice. So where the inbox held of the outbox what the flow
-- promises, it does
pub record HasGoneOn (flow : Flow) (wrote writes held holds : Held) : Type 0 where
  pub begins : BeginsHistory wrote.history writes.history
  pub on : HoldsOn flow wrote.history.made writes.history.made held.inbox holds.inbox
  pub holding : Holds flow wrote.history.made held.inbox → Holds flow writes.history.made holds.inbox

module _ {S I K A D N C J : Type 0} where
  -- So it is of two ends that ran, each any number of times, whatever both held at first, where the links that came back to both are linked
  abbrev pub RunsGoOn : Ghosts J → FeedSees S I K A D N C → Type 0
  RunsGoOn G sees = G.tells → (flows : Flows) (runs_i runs_a : List (Run S K D N C)) (first_i first_a now_i now_a : Held)
      → HasRunFrom G sees Initiator flows first_i runs_i now_i → HasRunFrom G sees Acceptor flows first_a runs_a now_a
      → LinkedCarried (configs_by sees.session Initiator runs_i) (configs_by sees.session Acceptor runs_a)
      (flat_map (brought sees.session) runs_i) (flat_map (brought sees.session) runs_a)
      → HasGoneOn flows.client first_i now_i first_a now_a × HasGoneOn flows.server first_a now_a first_i now_i
