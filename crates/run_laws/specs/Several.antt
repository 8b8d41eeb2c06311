-- Runs of one end, one behind another, on the same two disks. Between two of them the process may have stopped, and the disks are
-- left as the stop left them (this project's profile).
use Rattle.std.specs.Prelude.{◌≡◌, ◌⊎◌, ℕ, List, [], ◌∷◌, length, drop, Option, Some, None, Ok, IsSomeAnd, IsTrue, is_some}
use Rattle.std.specs.List.{AllByRecursion}
use Rattle.session_model.specs.Journal.{Entry, History}
use Rattle.session_model.specs.Inbox.{InboxRecord}
use Rattle.fixp_msgs.specs.Payload.{IsApplication}
use Rattle.fixp_msgs.specs.declared.flow.Flow.{Flow}
use Rattle.fixp_shake.specs.declared.config.Role.{Role}
use Rattle.gw_links.specs.Links.{Carried}
use Rattle.gw_links.specs.Dialers.{DialerTold}
use Rattle.jr_dated.specs.declared.journal.Journal.{Ghosts}
use Rattle.cmd_session.specs.Journals.{IsJournal}
use Rattle.jr_boxes.specs.Outboxes.{records_of_history}
use Rattle.jr_boxes.specs.Inboxes.{records_of_inbox}
use Rattle.cmd_base.specs.declared.status.Status.{Status}
use Rattle.cmd_config.specs.declared.configuration.Configuration.{Configuration}
use Rattle.cmd_session.specs.Inputs.{configuration_at}
use Rattle.cmd_session.specs.Outsides.{Sees}
use Rattle.cmd_session.specs.Steps.{Steps}
use Rattle.cmd_session.specs.declared.outside.SessionOutside.{SessionOutside}
use Rattle.cmd_feed.specs.declared.outside.FeedOutside.{FeedOutside}
use Rattle.cmd_feed.specs.Outsides.{FeedSees, session_of}
use Rattle.cmd_feed.specs.Steps.{Steps as FedSteps}

-- a run: its devices before and behind it, and the status that came with them
pub record Run (S K D N C : Type 0) : Type 0 where
  pub before : SessionOutside S K D N C
  pub after : SessionOutside S K D N C
  pub status : Status

-- the flows of a session: what the initiator sends, and what the acceptor sends
pub record Flows : Type 0 where
  pub client : Flow
  pub server : Flow

-- a CONFIG that spells a configuration for an end of this role spells one with these flows
abbrev pub HasFlows : Role → Flows → List ℕ → Type 0
HasFlows role flows text =
    (c : Configuration) → configuration_at role text ≡ Ok c → (c.link.client_flow ≡ flows.client) × (c.link.server_flow ≡ flows.server)

-- a journal without records, as `format` makes it
abbrev pub IsEmptyJournal : List ℕ → Type 0
IsEmptyJournal content = IsJournal content []

-- what the links carried that came back to a dialer
abbrev pub brought_by : (old new : Option DialerTold) → List (Option Carried)
brought_by None new = []
brought_by (Some old) None = []
brought_by (Some old) (Some new) = drop (length old.back) new.back

module _ {S K D N C : Type 0} where
  -- a disk tells one of these contents, and a stop leaves no other
  pub record IsAt (sees : Sees S K D N C) (contents : List ℕ → Type 0) (disk : D) : Type 0 where
    pub tells : IsSomeAnd (sees.told disk) contents
    pub leaves : (content : List ℕ) → sees.may_leave disk content → contents content

  -- and so in a run
  abbrev pub brought : Sees S K D N C → Run S K D N C → List (Option Carried)
  brought sees r = brought_by (sees.carried r.before.dialer) (sees.carried r.after.dialer)

  -- Runs one behind another, each of which was so: the first begins on disks with such contents, each later one on what a stop may
  -- leave behind the one before, and that may be these contents behind the last
  abbrev pub RunsOver : Sees S K D N C → (Run S K D N C → Type 0) → List (Run S K D N C) → (outboxes inboxes : List ℕ → Type 0)
      → (outbox inbox : List ℕ) → Type 0
  RunsOver sees Was [] outboxes inboxes outbox inbox = outboxes outbox × inboxes inbox
  RunsOver sees Was (r ∷ later) outboxes inboxes outbox inbox =
      IsAt sees outboxes r.before.out_disk × IsAt sees inboxes r.before.in_disk × Was r
      × RunsOver sees Was later (sees.may_leave r.after.out_disk) (sees.may_leave r.after.in_disk) outbox inbox

module _ {S K D N C J : Type 0} where
  -- it was not fed: it ended as `run_session` ensures for an end of this role
  abbrev pub IsUnfed : Ghosts J → Sees S K D N C → Role → Run S K D N C → Type 0
  IsUnfed G sees role r = Steps G sees role r.before r.after r.status

module _ {S I K A D N C J : Type 0} where
  -- It was fed: with an INPUT that is read as it comes and an ACCEPTED beside its devices, it ended as `run_feeding` ensures for an end of this role. Each
  -- disk of its kind tells its content, also that of the inbox as it was opened
  pub record IsFed (G : Ghosts J) (sees : FeedSees S I K A D N C) (role : Role) (r : Run S K D N C) : Type 0 where
    pub before : FeedOutside S I K A D N C
    pub after : FeedOutside S I K A D N C
    pub begins : r.before ≡ session_of before
    pub ends : r.after ≡ session_of after
    pub steps : FedSteps G sees role before after r.status
    pub tells : (disk : D) → IsTrue (is_some (sees.session.told disk))

  -- a run of an end of this role was fed or was not
  abbrev pub IsRun : Ghosts J → FeedSees S I K A D N C → Role → Run S K D N C → Type 0
  IsRun G sees role r = IsUnfed G sees.session role r ⊎ IsFed G sees role r

  -- and so over a CONFIG that tells these flows, and a dialer that tells its links
  pub record WasRun (G : Ghosts J) (sees : FeedSees S I K A D N C) (role : Role) (flows : Flows) (r : Run S K D N C) : Type 0 where
    pub config : IsSomeAnd (sees.session.left r.before.config) (HasFlows role flows)
    pub links : IsTrue (is_some (sees.session.carried r.before.dialer))
    pub steps : IsRun G sees role r

  -- All runs of an end, from two journals without records on. Behind them a stop may leave, or leaves, a journal of this history, with payloads
  -- of application messages, and one of this list
  pub record HasRun (G : Ghosts J) (sees : FeedSees S I K A D N C) (role : Role) (flows : Flows) (runs : List (Run S K D N C)) (h : History)
      (i : List InboxRecord) : Type 0 where
    pub outbox : List ℕ
    pub inbox : List ℕ
    pub over : RunsOver sees.session (WasRun G sees role flows) runs IsEmptyJournal IsEmptyJournal outbox inbox
    pub outbox_is : IsJournal outbox (records_of_history h)
    pub inbox_is : IsJournal inbox (records_of_inbox i)
    pub payloads : AllByRecursion (λ (e : Entry). IsApplication e.payload) h.made
