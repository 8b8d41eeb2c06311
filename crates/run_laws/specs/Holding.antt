-- What two ends hold of each other behind any runs of both, whichever call of a device failed and wherever they were stopped.
use Rattle.std.specs.Prelude.{◌≡◌, ℕ, List, flat_map}
use Rattle.session_model.specs.Journal.{History, InOrder}
use Rattle.session_model.specs.Inbox.{InboxRecord}
use Rattle.fixp_shake.specs.declared.config.Role.{Role}
use Rattle.fixp_shake.specs.declared.config.Role.TheVariants.{Initiator, Acceptor}
use Rattle.two_ends.specs.Meeting.{Holds}
use Rattle.jr_dated.specs.declared.journal.Journal.{Ghosts}
use Rattle.jr_record.specs.declared.record.Record.{Record}
use Rattle.jr_dated.specs.Images.{IsDamaged, IsNotFormatted}
use Rattle.cmd_session.specs.Journals.{IsJournal}
use Rattle.jr_boxes.specs.Outboxes.{records_of_history}
use Rattle.jr_boxes.specs.Inboxes.{records_of_inbox}
use Rattle.cmd_feed.specs.Outsides.{FeedSees}
use Rattle.run_laws.specs.Several.{Run, Flows, IsEmptyJournal, brought, RunsOver, IsRun, HasRun}
use Rattle.run_laws.specs.Linked.{LinkedCarried, configs_by}

module _ {S I K A D N C J : Type 0} where
  -- Two ends ran, each any number of times, and the links that came back to both are linked. Then the inbox of each holds of the outbox of the
  -- other what its flow promises: on a recoverable flow the messages applied are the first of those submitted, in order; on an idempotent
  -- one each is applied or told to be missing, once; on one without numbers only what was submitted is delivered, in order, and nothing twice. Each
  -- disk is one that tells its content
  abbrev pub RunsHold : Ghosts J → FeedSees S I K A D N C → Type 0
  RunsHold G sees = G.tells → (flows : Flows) (runs_i runs_a : List (Run S K D N C)) (h_i h_a : History) (i_i i_a : List InboxRecord)
      → HasRun G sees Initiator flows runs_i h_i i_i → HasRun G sees Acceptor flows runs_a h_a i_a
      → LinkedCarried (configs_by sees.session Initiator runs_i) (configs_by sees.session Acceptor runs_a)
      (flat_map (brought sees.session) runs_i) (flat_map (brought sees.session) runs_a)
      → Holds flows.client h_i.made i_a × Holds flows.server h_a.made i_i

-- a content has a list of records, which is not damaged, and its format
pub record IsSound (content : List ℕ) : Type 0 where
  pub listed : ((records : List Record) → IsJournal content records → ⊥) → ⊥
  pub undamaged : (at : ℕ) → IsDamaged content at → ⊥
  pub formatted : IsNotFormatted content → ⊥

module _ {S I K A D N C J : Type 0} where
  -- Behind any runs of an end, from journals without records on, whatever a stop leaves of its disks is sound
  abbrev pub NoneIsLost : Ghosts J → FeedSees S I K A D N C → Type 0
  NoneIsLost G sees = (role : Role) (runs : List (Run S K D N C)) (outbox inbox : List ℕ)
      → RunsOver sees.session (IsRun G sees role) runs IsEmptyJournal IsEmptyJournal outbox inbox
      → IsSound outbox × IsSound inbox

-- whatever records contents of the two disks hold are those of a history in order, and of a list
pub record AreBoxes (outbox inbox : List ℕ) : Type 0 where
  pub history : (records : List Record) → IsJournal outbox records → (h : History) × (records ≡ records_of_history h) × InOrder h.made
  pub list : (records : List Record) → IsJournal inbox records → (i : List InboxRecord) × (records ≡ records_of_inbox i)

module _ {S I K A D N C J : Type 0} where
  -- so it is of whatever a stop leaves behind any runs of an end
  abbrev pub BoxesAreLeft : Ghosts J → FeedSees S I K A D N C → Type 0
  BoxesAreLeft G sees = (role : Role) (runs : List (Run S K D N C)) (outbox inbox : List ℕ)
      → RunsOver sees.session (IsRun G sees role) runs IsEmptyJournal IsEmptyJournal outbox inbox
      → AreBoxes outbox inbox
