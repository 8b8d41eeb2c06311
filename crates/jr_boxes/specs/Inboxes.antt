-- What an inbound journal holds, in the words of the session model (this project's journal format).
use Rattle.std.specs.Prelude.{◌≡◌, ℕ, ◌+◌, ◌<◌, ◌≤◌, ◌^◌, Bool, true, false, List, [], ◌∷◌, ◌++◌, map, length, take, Option, Some, None}
use Rattle.session_model.specs.Inbox.{InboxRecord, apply, skip, negotiated, peer_finished, next_number, has_peer_finished}
use Rattle.fixp_msgs.specs.declared.flow.Flow.{Flow}
use Rattle.fixp_msgs.specs.declared.flow.Flow.TheVariants as flows
use Rattle.jr_record.specs.declared.record.Record.{Record}
use Rattle.jr_record.specs.declared.record.Record.TheVariants as kinds

-- the record of one of the model
abbrev pub record_of : InboxRecord → Record
record_of (apply m) = kinds.Apply m.number m.payload
record_of (skip r) = kinds.Skip r.first r.count
record_of negotiated = kinds.Negotiated
record_of (peer_finished last) = kinds.PeerFinished last

abbrev pub records_of_inbox : List InboxRecord → List Record
records_of_inbox i = map record_of i

-- whether the session is negotiated
abbrev pub has_negotiated : List InboxRecord → Bool
has_negotiated [] = false
has_negotiated (apply _ ∷ i) = has_negotiated i
has_negotiated (skip _ ∷ i) = has_negotiated i
has_negotiated (negotiated ∷ i) = true
has_negotiated (peer_finished _ ∷ i) = has_negotiated i

-- the peer's last number, once it finished
abbrev pub peer_last_in : List InboxRecord → Option ℕ
peer_last_in [] = None
peer_last_in (apply _ ∷ i) = peer_last_in i
peer_last_in (skip _ ∷ i) = peer_last_in i
peer_last_in (negotiated ∷ i) = peer_last_in i
peer_last_in (peer_finished last ∷ i) = Some last

-- A record may stand behind these: a message or a jump that begins at the next number, with a last number below 2^64 - 1,
-- a jump on an idempotent flow alone; the session negotiated once, and the peer finished once
abbrev pub Fits : Flow → List InboxRecord → InboxRecord → Type 0
Fits flow before (apply m) = (m.number ≡ next_number before) × (m.number + 1 < 2 ^ 64)
Fits flow before (skip r) = (flow ≡ flows.Idempotent) × (r.first ≡ next_number before) × (1 ≤ r.count) × (r.first + r.count < 2 ^ 64)
Fits flow before negotiated = has_negotiated before ≡ false
Fits flow before (peer_finished last) = has_peer_finished before ≡ false

-- the records are those of an inbox of this flow: each fits those before it
pub record IsInbox (flow : Flow) (records : List Record) (i : List InboxRecord) : Type 0 where
  pub spelled : records ≡ records_of_inbox i
  pub fits : (before after : List InboxRecord) (r : InboxRecord) → i ≡ before ++ r ∷ after → Fits flow before r

-- record `at`, from 0 on, is the first that an inbox of this flow excludes: those before it are an inbox, and with it they are none
pub record IsWrongAt (flow : Flow) (records : List Record) (at : ℕ) : Type 0 where
  pub within : at < length records
  pub list : List InboxRecord
  pub before : IsInbox flow (take at records) list
  pub excluded : (i : List InboxRecord) → IsInbox flow (take (at + 1) records) i → ⊥
