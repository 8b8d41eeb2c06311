-- The history of one end: its process lives, one after another over the same two journals, and the connections between two ends.
-- That journals outlive the process, and what a stop may leave of them, is this project's profile.
use Rattle.std.specs.Prelude.{◌≡◌, ℕ, ◌+◌, ◌-◌, ◌≤◌, Bool, true, false, List, [], ◌∷◌, ◌++◌, map, flat_map, length, take, Option, None}
use Rattle.std.specs.List.{AllByRecursion}
use mathlib.Core.List.{IsPrefix}
use Rattle.session_model.specs.Journal.{Entry, OutboxRecord, entries, InOrder, is_finished, history_of, BeginsHistory}
use Rattle.session_model.specs.Inbox.{Range, InboxRecord, applied, skips, payloads_of}
use Rattle.session_model.specs.Events.{Event, announce, handshake, messages, TrueOfJournal, Rising, HandshakeFirst, BeginsWithHandshake}
use Rattle.session_model.specs.Growth.{Flow, recoverable, idempotent, unsequenced, no_flow, GrownThrough}
use Rattle.session_model.specs.Plans.{Continues, SendersDone, sent_by}

-- One connection, seen from one end: the events of the peer's flow that it accepted, and those of its own flow that it wrote;
-- the records that it added to the inbox; the ranges that it reported as not applied (FIXP 1.1, NotApplied); and whether all
-- of its output was taken and it had not ended
pub record Connection : Type 0 where
  pub accepted : List Event
  pub written : List Event
  pub added : List InboxRecord
  pub reported : List Range
  pub drained : Bool

-- What a life does over its connections. It opened its inbox on these records and left it at those. `refused_inbox` are the
-- records of the one append that failed, if any. `processed` is how many of the accepted events are processed for sure: all
-- but those that wait for a refused record
pub record Served : Type 0 where
  pub opening_inbox : List InboxRecord
  pub closing_inbox : List InboxRecord
  pub refused_inbox : List InboxRecord
  pub processed : ℕ
  pub connections : List Connection

-- One life of an end: what it served, and its outbox in the same way
pub record Life : Type 0 where
  pub opening_outbox : List OutboxRecord
  pub closing_outbox : List OutboxRecord
  pub refused_outbox : List OutboxRecord
  pub served : Served

-- an image that a stop may leave: the closing records, and a beginning of those refused
pub record IsImage {A : Type 0} (closing refused image : List A) : Type 0 where
  pub kept : List A
  pub beginning : IsPrefix kept refused
  pub holds : image ≡ closing ++ kept

-- what some connections accepted, and what they wrote
abbrev pub accepted_of : List Connection → List (List Event)
accepted_of cs = map (λ (c : Connection). c.accepted) cs

abbrev pub written_of : List Connection → List (List Event)
written_of cs = map (λ (c : Connection). c.written) cs

-- the records that some connections added
abbrev pub added_of : List Connection → List InboxRecord
added_of cs = flat_map (λ (c : Connection). c.added) cs

-- how many events some connections carried
abbrev pub count_events : List (List Event) → ℕ
count_events [] = 0
count_events (es ∷ later) = length es + count_events later

-- the first k events that some connections carried, one connection after another
abbrev pub first_events : ℕ → List (List Event) → List (List Event)
first_events k [] = []
first_events k (es ∷ later) = take k es ∷ first_events (k - length es) later

-- what an end may write of its own flow, where its journal opened on `before` and has come to `after`: on a sequenced flow
-- each connection is true of the journal; on an unsequenced one all connections together rise through it, beyond what it opened on
abbrev pub Writes : Flow → List Entry → List Entry → List (List Event) → Type 0
Writes recoverable before after written = AllByRecursion (TrueOfJournal after None) written
Writes idempotent before after written = AllByRecursion (TrueOfJournal after None) written
Writes unsequenced before after written = Rising after (length before) (flat_map messages written)
Writes no_flow before after written = flat_map messages written ≡ []

-- what was reported as not applied are, in order, the first of the skip records; all of them, where the output was taken
pub record ReportsSkips (c : Connection) : Type 0 where
  pub in_order : IsPrefix c.reported (skips c.added)
  pub all : c.drained ≡ true → c.reported ≡ skips c.added

-- What one life of an end keeps on its connections, whatever its peer does. It is said by who sees the outbox only as far as
-- one pass has seen it: it opened on these entries, and those were seen. Every image of the inbox is the opening one grown
-- over the first so many accepted events: at least over those that are processed for sure, and over all where no record is lost
pub record KeepsConnections (own peer : Flow) (opened seen : List Entry) (life : Served) : Type 0 where
  pub inbox_adds : life.closing_inbox ≡ life.opening_inbox ++ added_of life.connections
  pub inbox_grown : (image : List InboxRecord) → IsImage life.closing_inbox life.refused_inbox image
      → (k : ℕ) × GrownThrough peer (first_events k (accepted_of life.connections)) life.opening_inbox image × (life.processed ≤ k)
  pub none_lost : GrownThrough peer (accepted_of life.connections) life.opening_inbox (life.closing_inbox ++ life.refused_inbox)
  pub all_processed : life.refused_inbox ≡ [] → life.processed ≡ count_events (accepted_of life.connections)
  pub begins : AllByRecursion BeginsWithHandshake (accepted_of life.connections)
  pub handshakes : AllByRecursion HandshakeFirst (written_of life.connections)
  pub writes : Writes own opened seen (written_of life.connections)
  pub reports : AllByRecursion ReportsSkips life.connections

-- what a life served, and then served behind it
abbrev pub served_on : Served → Served → Served
served_on first second = record {
  opening_inbox = first.opening_inbox;
  closing_inbox = second.closing_inbox;
  refused_inbox = second.refused_inbox;
  processed = first.processed + second.processed;
  connections = first.connections ++ second.connections;
}

-- What one life of an end keeps of its outbox; it is said once the senders' gate is closed. Of every image: the history goes
-- on, each sender's entries are in order and continue its plan; and a finish that the life added, or may have added, stands
-- behind all that the senders were to send
pub record KeepsOutbox (plan : ℕ → List (List ℕ) → List (List ℕ)) (life : Life) : Type 0 where
  pub outbox_grows : IsPrefix life.opening_outbox life.closing_outbox
  pub history_grows : (image : List OutboxRecord) → IsImage life.closing_outbox life.refused_outbox image
      → BeginsHistory (history_of life.opening_outbox) (history_of image)
  pub in_order : (image : List OutboxRecord) → IsImage life.closing_outbox life.refused_outbox image → InOrder (entries image)
  pub plans : (image : List OutboxRecord) → IsImage life.closing_outbox life.refused_outbox image → (s : ℕ)
      → Continues (plan s (payloads_of (applied life.served.closing_inbox))) (sent_by (entries life.opening_outbox) s) (sent_by (entries image) s)
  pub finishes : (image : List OutboxRecord) → IsImage life.closing_outbox life.refused_outbox image
      → is_finished life.opening_outbox ≡ false → is_finished image ≡ true
      → SendersDone plan (entries life.opening_outbox) (entries image) life.served.opening_inbox life.served.closing_inbox

-- The contract of one end over one life: both parts, where all of the outbox was seen
pub record KeepsContract (own peer : Flow) (plan : ℕ → List (List ℕ) → List (List ℕ)) (life : Life) : Type 0 where
  pub connections : KeepsConnections own peer (entries life.opening_outbox) (entries life.closing_outbox) life.served
  pub outbox : KeepsOutbox plan life

-- a life that opened on these journals may leave those
pub record Leads (life : Life) (outbox : List OutboxRecord) (inbox : List InboxRecord) (outbox' : List OutboxRecord) (inbox' : List InboxRecord) : Type 0 where
  pub opens_outbox : life.opening_outbox ≡ outbox
  pub opens_inbox : life.served.opening_inbox ≡ inbox
  pub outbox_image : IsImage life.closing_outbox life.refused_outbox outbox'
  pub inbox_image : IsImage life.served.closing_inbox life.served.refused_inbox inbox'

-- Chained lives: each opens on journals that the one before may have left, and the last may leave these
abbrev pub Chained : List OutboxRecord → List InboxRecord → List Life → List OutboxRecord → List InboxRecord → Type 0
Chained outbox inbox [] outbox' inbox' = (outbox' ≡ outbox) × (inbox' ≡ inbox)
Chained outbox inbox (life ∷ later) outbox' inbox' =
    (o : List OutboxRecord) × (i : List InboxRecord) × Leads life outbox inbox o i × Chained o i later outbox' inbox'

-- all connections of an end, in order
abbrev pub connections_of : List Life → List Connection
connections_of lives = flat_map (λ (life : Life). life.served.connections) lives

-- What one end accepted of what the other wrote, whose bytes it read a beginning of: a beginning of the events, but for
-- announcements of the handshake that it rejected. Any other frame that is not accepted ends what is accepted
pub data TakenFrom : List Event → List Event → Type 0 where
  rest_lost : {written : List Event} → TakenFrom written []
  taken : {e : Event} {written accepted : List Event} → TakenFrom written accepted → TakenFrom (e ∷ written) (e ∷ accepted)
  rejected : {n : Option ℕ} {written accepted : List Event} → TakenFrom written accepted → TakenFrom (announce handshake n ∷ written) accepted

-- Linked connections: paired in the same order at both ends, each in at most one pair. In a pair each end accepted of what
-- the other wrote; a connection in no pair accepted nothing
pub data Linked : List Connection → List Connection → Type 0 where
  no_more : Linked [] []
  left_alone : {a : Connection} {as' bs : List Connection} → a.accepted ≡ [] → Linked as' bs → Linked (a ∷ as') bs
  right_alone : {b : Connection} {as' bs : List Connection} → b.accepted ≡ [] → Linked as' bs → Linked as' (b ∷ bs)
  paired : {a b : Connection} {as' bs : List Connection}
      → TakenFrom b.written a.accepted → TakenFrom a.written b.accepted → Linked as' bs → Linked (a ∷ as') (b ∷ bs)
