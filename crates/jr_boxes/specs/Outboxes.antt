-- What an outbound journal holds, in the words of the session model: the records of a history (this project's journal format).
use Rattle.std.specs.Prelude.{◌≡◌, ℕ, ◌+◌, ◌<◌, Bool, true, false, List, [], ◌∷◌, ◌++◌, map, length, take}
use Rattle.std.specs.List.{AllByRecursion}
use Rattle.session_model.specs.Journal.{Entry, History, InOrder, OutboxRecord, entry, finish}
use Rattle.fixp_msgs.specs.Payload.{IsApplication}
use Rattle.jr_record.specs.declared.record.Record.{Record}
use Rattle.jr_record.specs.declared.record.Record.TheVariants as kinds
use Rattle.jr_record.specs.Records.{IsSender}

-- the record of one of the model
abbrev pub record_of : OutboxRecord → Record
record_of (entry e) = kinds.Entry e.sender e.own_number e.payload
record_of finish = kinds.Finish

-- the mark that nothing more comes, where it stands
abbrev pub mark_of : Bool → List OutboxRecord
mark_of true = finish ∷ []
mark_of false = []

-- the entries of a history, and behind them its mark
abbrev pub outbox_of : History → List OutboxRecord
outbox_of h = map (λ (e : Entry). entry e) h.made ++ mark_of h.finished

abbrev pub records_of_history : History → List Record
records_of_history h = map record_of (outbox_of h)

-- The records are those of a history: entries of senders 1 to 16, in order per sender, each with the payload of an
-- application message, and a Finish behind them where it has the mark
pub record IsOutbox (records : List Record) (h : History) : Type 0 where
  pub spelled : records ≡ records_of_history h
  pub senders : AllByRecursion (λ (e : Entry). IsSender e.sender) h.made
  pub payloads : AllByRecursion (λ (e : Entry). IsApplication e.payload) h.made
  pub in_order : InOrder h.made

-- record `at`, from 0 on, is the first that an outbox excludes: those before it are an outbox, and with it they are none
pub record IsWrongAt (records : List Record) (at : ℕ) : Type 0 where
  pub within : at < length records
  pub history : History
  pub before : IsOutbox (take at records) history
  pub excluded : (h : History) → IsOutbox (take (at + 1) records) h → ⊥

-- the history with one more entry, and with the mark
abbrev pub with_entry : History → Entry → History
with_entry h e = record { made = h.made ++ e ∷ []; finished = h.finished }

abbrev pub with_mark : History → History
with_mark h = record { made = h.made; finished = true }
