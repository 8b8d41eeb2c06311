-- What an end writes on a connection: its session messages and entries of its outbox, and what these carry of its own flow.
use Rattle.std.specs.Prelude.{◌≡◌, ℕ, ◌+◌, ◌<◌, ◌≤◌, ◌||◌, Bool, true, false, if◌then◌else◌, List, [], ◌∷◌, ◌++◌, map, length, Option, Some, None, option_to_list, is_some, IsSome, IsTrue}
use Rattle.std.specs.List.{flat_map}
use Rattle.session_model.specs.Inbox.{Range}
use Rattle.session_model.specs.Events.{Event, announce, handshake, in_flow, BeginsWithHandshake}
use Rattle.flow_idem.specs.Runs.{runs_of}
use Rattle.fixp_msgs.specs.declared.numbering.Range as ranges
use Rattle.fixp_msgs.specs.Canonical.{frame_bytes}
use Rattle.fixp_msgs.specs.Message.{Message, sequence}
use Rattle.fixp_msgs.specs.Numbering.{announcement_of}
use Rattle.fixp_shake.specs.declared.phase.Phase.{Phase}
use Rattle.fixp_shake.specs.declared.violation.Violation.{Violation}
use Rattle.fixp_shake.specs.Flows.{is_recoverable}
use Rattle.fixp_shake.specs.Phases.{is_idle, is_establishing, is_shaken}
use Rattle.fixp_replies.specs.declared.facts.Facts.{Facts}
use Rattle.fixp_replies.specs.Acts.{is_record}
use Rattle.fixp_replies.specs.Events.{begun, heartbeats, lateness, turn_ended, finish_told}
use Rattle.fixp_replies.specs.Facts.{Around, announced_number}
use Rattle.fixp_replies.specs.Incoming.{Incoming}
use Rattle.fixp_replies.specs.Outcomes.{Outcome, breaks}
use Rattle.fixp_replies.specs.Replies.{reply_of, reply_to_bad_frame}
use Rattle.fixp_machine.specs.Machine.{State, Call, begin, frame, bad_frame, did, tick, turn_done, closed, link_end, live, again, taken, reserve, held_done, around, payload_frame, rest_of}
use Rattle.fixp_machine.specs.Sound.{may_return, KeepsSent}
use Rattle.fixp_machine.specs.Accepting.{event_of, told_by}

-- the events of the own flow that some session messages carry
abbrev pub events_in : List Message → List Event
events_in messages = flat_map (λ m. option_to_list (announcement_of m)) messages

-- one frame that is written: of a session message, or of an entry of the outbox
pub data Piece : Type 0 where
  said : Message → Piece
  entry : (payload : List ℕ) → Piece

abbrev pub said_all : List Message → List Piece
said_all messages = map said messages

abbrev pub entries : List (List ℕ) → List Piece
entries payloads = map entry payloads

-- its bytes, its event of the own flow, and the range that it tells to be not applied
abbrev pub bytes_of_piece : Piece → List ℕ
bytes_of_piece (said m) = frame_bytes m
bytes_of_piece (entry payload) = payload_frame payload

abbrev pub events_of_piece : Piece → List Event
events_of_piece (said m) = option_to_list (announcement_of m)
events_of_piece (entry payload) = Event.message payload ∷ []

abbrev pub told_by_piece : Piece → List Range
told_by_piece (said m) = told_by m
told_by_piece (entry payload) = []

abbrev pub bytes_written : List Piece → List ℕ
bytes_written pieces = flat_map bytes_of_piece pieces

abbrev pub events_written : List Piece → List Event
events_written pieces = flat_map events_of_piece pieces

abbrev pub ranges_told : List Piece → List Range
ranges_told pieces = flat_map told_by_piece pieces

-- what an outcome writes once it takes effect, where there is one
abbrev pub said_with : Option Outcome → List Message
said_with None = []
said_with (Some o) = o.written

abbrev pub said_breaking : State → Option Violation → (now : ℕ) → List Message
said_breaking s None now = []
said_breaking s (Some violation) now = (breaks (around s 0 now) s.facts violation).written

abbrev pub range_closed : Facts → Option ranges.Range → List Piece
range_closed f None = said (sequence (f.recorded.sent + 1)) ∷ []
range_closed f (Some _) = []

abbrev pub written_again : Facts → Option ranges.Range → List (List ℕ) → List Piece
written_again f None payloads = []
written_again f (Some r) payloads = entries payloads ++ range_closed f (rest_of r (length payloads))

-- what a call writes, where the end is in this state
abbrev pub writes : State → Call → List Piece
writes s (begin now) = said_all (begun (around s 0 now) s.facts.recorded).written
writes s (frame i at now) = if is_record (reply_of (around s at now) s.facts i).act then [] else said_all (reply_of (around s at now) s.facts i).written
writes s (bad_frame at now) = said_all (reply_to_bad_frame (around s at now) s.facts).written
writes s (did now) = said_all (said_with s.pending)
writes s (tick now) =
    if is_some s.ending then []
    else said_all (heartbeats (around s 0 now) s.facts s.last_sent s.unsent ++ said_breaking s (lateness (around s 0 now) s.facts s.start s.last_received) now)
writes s (turn_done now) = if is_some s.ending then [] else said_all (turn_ended (around s 0 now) s.facts (runs_of s.untold)).written
writes s (closed last now) = if is_some s.ending then [] else said_all (finish_told (around s 0 now) s.facts last).written
writes s link_end = []
writes s (live payloads now) = entries payloads
writes s (again payloads now) = written_again s.facts s.facts.connection.serving payloads
writes s (taken count) = []
writes s reserve = []
writes s held_done = []

-- the handshake's announcement was made in this phase: an initiator makes it with Establish
abbrev pub is_reached : Phase → Bool
is_reached phase = is_establishing phase || is_shaken phase

-- the own flow stands as it did: as many entries are sent, the same range is served, the handshake is not undone, and the connection
-- is opened where it was
pub record SameOwn (f g : Facts) : Type 0 where
  pub sent : g.recorded.sent ≡ f.recorded.sent
  pub serving : g.connection.serving ≡ f.connection.serving
  pub stays : is_shaken f.connection.phase ≡ true → is_shaken g.connection.phase ≡ true
  pub reached : is_reached g.connection.phase ≡ true → is_reached f.connection.phase ≡ true
  pub idle : is_idle g.connection.phase ≡ true → is_idle f.connection.phase ≡ true

-- The handshake's announcement is made, of the next number, before the handshake is done. Entries count as sent no longer only where
-- it is the first and ends the handshake
pub record Shakes (x : Around) (f : Facts) (o : Outcome) : Type 0 where
  pub tells : events_in o.written ≡ announce handshake (announced_number x o.next) ∷ []
  pub before : is_shaken f.connection.phase ≡ false
  pub opened : is_idle o.next.connection.phase ≡ false
  pub sent : KeepsSent x.config f o.next
  pub first : may_return x.config f o.next ≡ true → is_idle f.connection.phase ≡ true
  pub serving : o.next.connection.serving ≡ f.connection.serving

-- The handshake is done, whose announcement was made, and fewer entries count as sent from then on: the next number is told
pub record Returns (x : Around) (f : Facts) (o : Outcome) : Type 0 where
  pub tells : events_in o.written ≡ announce in_flow (Some (o.next.recorded.sent + 1)) ∷ []
  pub may : may_return x.config f o.next ≡ true
  pub reached : is_reached f.connection.phase ≡ true
  pub sent : o.next.recorded.sent < f.recorded.sent
  pub serving : o.next.connection.serving ≡ f.connection.serving

-- a range of entries that were sent is served from then on, where none was: its first number is announced
pub record Resends (x : Around) (f : Facts) (o : Outcome) : Type 0 where
  pub range : ranges.Range
  pub tells : events_in o.written ≡ announce in_flow (Some range.from) ∷ []
  pub own : is_recoverable x.config.own_flow ≡ true
  pub free : f.connection.serving ≡ None
  pub done : is_shaken f.connection.phase ≡ true
  pub stays : is_shaken o.next.connection.phase ≡ true
  pub sent : o.next.recorded.sent ≡ f.recorded.sent
  pub serving : o.next.connection.serving ≡ Some range
  pub from_one : 1 ≤ range.from
  pub within : range.from ≤ f.recorded.sent

-- what a reply writes of the own flow: nothing, the handshake's announcement, that of the number from which it starts again, or that
-- of a range that is served
pub data WritesOwn (x : Around) (f : Facts) (o : Outcome) : Type 0 where
  nothing : events_in o.written ≡ [] → SameOwn f o.next → WritesOwn x f o
  shakes : Shakes x f o → WritesOwn x f o
  returns : Returns x f o → WritesOwn x f o
  resends : Resends x f o → WritesOwn x f o

-- Before the handshake is done nothing is heard of the peer's flow but its announcement, and with that the handshake is done
pub record HearsHandshake (f : Facts) (i : Incoming) (o : Outcome) : Type 0 where
  pub opens : IsTrue o.accepted → is_shaken f.connection.phase ≡ false → BeginsWithHandshake (option_to_list (event_of i))
  pub unheard : IsTrue o.accepted → is_shaken o.next.connection.phase ≡ false → event_of i ≡ None
  pub done : is_shaken f.connection.phase ≡ false → is_shaken o.next.connection.phase ≡ true → IsTrue o.accepted × IsSome (event_of i)

abbrev pub FrameWrites : Type 0
FrameWrites = (x : Around) (f : Facts) (i : Incoming) → WritesOwn x f (reply_of x f i)

abbrev pub FrameHears : Type 0
FrameHears = (x : Around) (f : Facts) (i : Incoming) → HearsHandshake f i (reply_of x f i)
