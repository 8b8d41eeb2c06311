-- The session machine of one end, as definitions: its state, and what each call makes of it (FIXP 1.1, "Session lifecycle"; that
-- messages are held past a gap is this project's profile).
use Rattle.std.specs.Prelude.{◌≡◌, ⊤, ℕ, ◌+◌, ◌-◌, ◌==◌, ◌<◌, ◌≤◌, ◌^◌, Bool, true, false, if◌then◌else◌, List, [], ◌∷◌, ◌++◌, length, drop, Option, Some, None, is_some, IfSome, IsSome}
use Rattle.std.specs.Int.{w32, to_be_bytes}
use Rattle.std.specs.List.{flat_map, AllByRecursion}
use Rattle.session_model.specs.Inbox.{Numbered, numbers_of}
use Rattle.fixp_msgs.specs.declared.numbering.Range.{Range}
use Rattle.fixp_msgs.specs.Canonical.{frame_bytes}
use Rattle.fixp_msgs.specs.Message.{Message, sequence}
use Rattle.flow_idem.specs.Runs.{runs_of}
use Rattle.flow_recover.specs.Receiving.{past}
use Rattle.flow_window.specs.Window.{holding, least, front, InReach}
use Rattle.fixp_shake.specs.declared.config.EndConfig.{EndConfig}
use Rattle.fixp_shake.specs.declared.phase.Phase.{Phase}
use Rattle.fixp_shake.specs.declared.phase.Phase.TheVariants as phases
use Rattle.fixp_shake.specs.declared.violation.Violation.{Violation}
use Rattle.fixp_shake.specs.Flows.{is_idempotent, is_recoverable}
use Rattle.fixp_replies.specs.declared.act.Act.{Act}
use Rattle.fixp_replies.specs.declared.act.Act.TheVariants as acts
use Rattle.fixp_replies.specs.declared.act.Ending.{Ending}
use Rattle.fixp_replies.specs.declared.facts.EndState.{EndState}
use Rattle.fixp_replies.specs.declared.facts.Facts.{Facts}
use Rattle.fixp_replies.specs.Acts.{is_record}
use Rattle.fixp_replies.specs.Incoming.{Incoming, payload_in}
use Rattle.fixp_replies.specs.Facts.{Around, connecting, serves, receiving, awaiting}
use Rattle.fixp_replies.specs.Outcomes.{Outcome, breaks}
use Rattle.fixp_replies.specs.Replies.{reply_of, reply_to_bad_frame}
use Rattle.fixp_machine.specs.Sound.{Sound, KeepsSound, HeldFits, KeepsHeld, InLine}
use Rattle.fixp_replies.specs.Events.{Made, begun, heartbeats, lateness, turn_ended, outbox_finished, finish_told, link_ending}

-- What an end is: its configuration, the greatest number that it takes, whether a connection was begun, the last moment that
-- it was told in milliseconds, the facts, how the connection ended, the bytes written and not yet taken, the outcome whose act
-- is still to be done, and for how many frames it has room. Of its connection: the moments of its beginning, of the last frame
-- written and of the last one received, the numbers that an idempotent flow applied since the last turn's end, and the messages of
-- a recoverable flow that are held past a gap, by rising numbers
pub record State : Type 0 where
  pub config : EndConfig
  pub most : ℕ
  pub begun : Bool
  pub moment : ℕ
  pub facts : Facts
  pub ending : Option Ending
  pub unsent : List ℕ
  pub pending : Option Outcome
  pub room : ℕ
  pub start : ℕ
  pub last_sent : ℕ
  pub last_received : ℕ
  pub untold : List ℕ
  pub held : List Numbered

-- a new end, before its first connection
abbrev pub fresh : EndConfig → EndState → ℕ → State
fresh cfg recorded most = record {
  config = cfg;
  most = most;
  begun = false;
  moment = 0;
  facts = connecting recorded phases.Idle;
  ending = None;
  unsent = [];
  pending = None;
  room = 0;
  start = 0;
  last_sent = 0;
  last_received = 0;
  untold = [];
  held = [];
}

-- what stands around an event at this place and moment
abbrev pub around : State → ℕ → ℕ → Around
around s at now = record { config = s.config; most = s.most; at = at; moment = now; held = least s.held }

-- the bytes of some messages
abbrev pub bytes_of : List Message → List ℕ
bytes_of = flat_map frame_bytes

-- the moment of the last frame written, where these bytes are written now
abbrev pub sent_at : ℕ → List ℕ → ℕ → ℕ
sent_at before [] now = before
sent_at before (_ ∷ _) now = now

-- these bytes are written
abbrev pub wrote : State → List ℕ → ℕ → State
wrote s bytes now = record s { unsent = s.unsent ++ bytes; last_sent = sent_at s.last_sent bytes now }

-- what an event other than a frame makes takes effect
abbrev pub made : State → Made → ℕ → State
made s m now = record (wrote s (bytes_of m.written) now) { facts = m.next }

-- A connection begins: what the one before left unsent is dropped, and nothing is held
abbrev pub connected : State → ℕ → State
connected s now =
    made (record s { begun = true; moment = now; ending = None; unsent = []; pending = None; start = now; last_sent = now; last_received = now; untold = []; held = [] })
    (begun (around s 0 now) s.facts.recorded) now

-- the numbers that are to be told at the turn's end once an act is done
abbrev pub to_tell : EndConfig → Act → List ℕ
to_tell cfg acts.Nothing = []
to_tell cfg (acts.Apply number) = if is_idempotent cfg.peer_flow then number ∷ [] else []
to_tell cfg (acts.Skip from count) = []
to_tell cfg acts.Negotiated = []
to_tell cfg (acts.PeerFinished last) = []
to_tell cfg (acts.Told from count) = []
to_tell cfg acts.Ended = []

-- where a connection ends, nothing is held any more
abbrev pub held_until : Option Ending → List Numbered → List Numbered
held_until None ms = ms
held_until (Some ending) ms = []

-- an outcome takes effect
abbrev pub reply_applied : State → Outcome → ℕ → State
reply_applied s o now = record (wrote s (bytes_of o.written) now)
    { facts = o.next; ending = o.ending; pending = None; untold = s.untold ++ to_tell s.config o.act; held = held_until o.ending s.held }

-- a message with this payload is held under this number, if it is to be
abbrev pub held_with : Option ℕ → List ℕ → List Numbered → List Numbered
held_with None payload ms = ms
held_with (Some n) payload ms = holding n payload ms

-- the end after a frame with this message and this outcome: where the act is a record, the outcome is pending
abbrev pub after_frame : State → Incoming → Outcome → ℕ → State
after_frame s i o now =
    if is_record o.act
    then record s { moment = now; last_received = now; room = s.room - 1; pending = Some o }
    else reply_applied (record s { moment = now; last_received = now; room = s.room - 1; held = held_with o.holds (payload_in i) s.held }) o now

-- bytes came that are no frame
abbrev pub after_bad_frame : State → ℕ → ℕ → State
after_bad_frame s at now = reply_applied (record s { moment = now; last_received = now }) (reply_to_bad_frame (around s at now) s.facts) now

-- the pending outcome takes effect, now that its act is done
abbrev pub after_act : State → Outcome → ℕ → State
after_act s o now = reply_applied (record s { moment = now }) o now

-- the clock ticked: a heartbeat that is due is written, and then the connection ends that is silent or late
abbrev pub broken_by : State → Option Violation → ℕ → State
broken_by s None now = s
broken_by s (Some violation) now = reply_applied s (breaks (around s 0 now) s.facts violation) now

abbrev pub ticked : State → ℕ → State
ticked s now =
    if is_some s.ending then record s { moment = now }
    else broken_by (wrote (record s { moment = now }) (bytes_of (heartbeats (around s 0 now) s.facts s.last_sent s.unsent)) now)
    (lateness (around s 0 now) s.facts s.start s.last_received) now

-- a turn ended
abbrev pub after_turn : State → ℕ → State
after_turn s now =
    if is_some s.ending then record s { moment = now }
    else record (made (record s { moment = now }) (turn_ended (around s 0 now) s.facts (runs_of s.untold)) now) { untold = [] }

-- the outbox has its finish behind this many entries
abbrev pub after_closed : State → ℕ → ℕ → State
after_closed s last now =
    if is_some s.ending then record s { moment = now; facts = outbox_finished s.facts last }
    else made (record s { moment = now }) (finish_told (around s 0 now) s.facts last) now

-- no more bytes come: a connection that has not ended ends
abbrev pub link_ended : State → State
link_ended s = if is_some s.ending then s else record s { ending = Some (link_ending (around s 0 s.moment) s.facts); pending = None; held = [] }

-- the held message that the inbox awaits
abbrev pub front_of : State → Option Numbered
front_of s = front s.facts.recorded.inbox_next s.held

-- it was applied: the inbox awaits the number behind it
abbrev pub past_held : Facts → Numbered → Facts
past_held f m = receiving (awaiting f (m.number + 1)) (past f.connection.receiver)

abbrev pub held_applied : State → Option Numbered → State
held_applied s None = s
held_applied s (Some m) = record s { facts = past_held s.facts m; held = drop 1 s.held }

-- the frame of an entry of the outbox, whose payload begins with the encoding type (Simple Open Framing Header 1.0)
abbrev pub payload_frame : List ℕ → List ℕ
payload_frame payload = to_be_bytes w32 (length payload + 4) ++ payload

abbrev pub payload_frames : List (List ℕ) → List ℕ
payload_frames = flat_map payload_frame

-- some entries are counted as sent
abbrev pub counted_sent : Facts → ℕ → Facts
counted_sent f n = record f { recorded = record f.recorded { sent = f.recorded.sent + n } }

-- entries are sent live, from the one behind the last that was sent
abbrev pub sent_live : State → List (List ℕ) → ℕ → State
sent_live s payloads now = record (wrote (record s { moment = now }) (payload_frames payloads) now) { facts = counted_sent s.facts (length payloads) }

-- what is left of a range once n of its messages were sent again
abbrev pub rest_of : Range → ℕ → Option Range
rest_of r n = if r.count == n then None else Some (record { from = r.from + n; count = r.count - n })

-- behind the last message of the range stands a Sequence with the number of the next live one
abbrev pub range_end : Facts → Option Range → List ℕ
range_end f None = frame_bytes (sequence (f.recorded.sent + 1))
range_end f (Some _) = []

-- entries of the range that is served are sent again, from its front
abbrev pub sent_again : State → Range → List (List ℕ) → ℕ → State
sent_again s r payloads now =
    record (wrote (record s { moment = now }) (payload_frames payloads ++ range_end s.facts (rest_of r (length payloads))) now)
    { facts = serves s.facts (rest_of r (length payloads)) }

-- the phase, which is Ended exactly where the connection has ended
abbrev pub phase_of : State → Phase
phase_of s = if is_some s.ending then phases.Ended else s.facts.connection.phase

-- a call of the end
pub data Call : Type 0 where
  begin : (now : ℕ) → Call
  frame : (incoming : Incoming) → (at now : ℕ) → Call
  bad_frame : (at now : ℕ) → Call
  did : (now : ℕ) → Call
  tick : (now : ℕ) → Call
  turn_done : (now : ℕ) → Call
  closed : (last now : ℕ) → Call
  link_end : Call
  live : (payloads : List (List ℕ)) → (now : ℕ) → Call
  again : (payloads : List (List ℕ)) → (now : ℕ) → Call
  taken : (count : ℕ) → Call
  reserve : Call
  held_done : Call

-- what a call makes of the end. Where nothing is pending `did` does nothing, and where nothing is served `again` does nothing:
-- neither is called then
abbrev pub done_pending : State → Option Outcome → ℕ → State
done_pending s None now = s
done_pending s (Some o) now = after_act s o now

abbrev pub served_again : State → Option Range → List (List ℕ) → ℕ → State
served_again s None payloads now = s
served_again s (Some r) payloads now = sent_again s r payloads now

-- how many frames room is made for at once
abbrev pub frames_reserved : ℕ
frames_reserved = 256

abbrev pub step : State → Call → State
step s (begin now) = connected s now
step s (frame incoming at now) = after_frame s incoming (reply_of (around s at now) s.facts incoming) now
step s (bad_frame at now) = after_bad_frame s at now
step s (did now) = done_pending s s.pending now
step s (tick now) = ticked s now
step s (turn_done now) = after_turn s now
step s (closed last now) = after_closed s last now
step s link_end = link_ended s
step s (live payloads now) = sent_live s payloads now
step s (again payloads now) = served_again s s.facts.connection.serving payloads now
step s (taken count) = record s { unsent = drop count s.unsent }
step s reserve = record s { room = frames_reserved }
step s held_done = held_applied s (front_of s)

-- a list of calls, one after another
abbrev pub run : State → List Call → State
run s [] = s
run s (call ∷ later) = run (step s call) later

-- What is held keeps to: it fits the facts, on a flow that is not recoverable nothing is held, nor once the connection has ended; and
-- what is held lies within reach of the number that the inbox awaits, and is not past the greatest one
pub record Windowed (cfg : EndConfig) (top : ℕ) (f : Facts) (ending : Option Ending) (held : List Numbered) : Type 0 where
  pub fits : HeldFits (least held) f
  pub other : is_recoverable cfg.peer_flow ≡ false → held ≡ []
  pub over : IsSome ending → held ≡ []
  pub reach : InReach f.recorded.inbox_next held
  pub most : AllByRecursion (λ n. n ≤ top) (numbers_of held)

-- Where the inbox awaits no message that is held, a reply leaves what is held, with the message of its frame where that is to be held
-- and without it, keeping to the same
pub record WindowStays (x : Around) (f : Facts) (i : Incoming) (o : Outcome) (held : List Numbered) : Type 0 where
  pub before : Windowed x.config x.most o.next o.ending (held_until o.ending held)
  pub behind : Windowed x.config x.most o.next o.ending (held_until o.ending (held_with o.holds (payload_in i) held))

abbrev pub WindowGoesOn : Type 0
WindowGoesOn = (x : Around) (f : Facts) (i : Incoming) (ending : Option Ending) (held : List Numbered) → x.most < 2 ^ 40 → Sound x.config f → x.held ≡ least held
    → Windowed x.config x.most f ending held → front f.recorded.inbox_next held ≡ None → WindowStays x f i (reply_of x f i) held

-- What a state keeps to: a greatest number below 2^40, sound facts, what is held, and a pending outcome that keeps both; while an act
-- is still to be done, the inbox awaits no message that is held
pub record StaysSound (s : State) : Type 0 where
  pub most : s.most < 2 ^ 40
  pub facts : Sound s.config s.facts
  pub windowed : Windowed s.config s.most s.facts s.ending s.held
  pub pending : IfSome s.pending (λ o. KeepsSound s.config s.most s.facts o)
  pub holding : IfSome s.pending (λ o. KeepsHeld s.config s.most s.facts o)
  pub waits : IsSome s.pending → front_of s ≡ None

-- When a call may come: but for the beginning of a connection, a tick and the link's end, no act is still to be done, but for
-- `did`; the entries sent are those that an outbox may have; and a held message that the inbox awaits is applied before any frame
-- and any turn's end
abbrev pub IsDone : State → Type 0
IsDone s = s.pending ≡ None

-- no message is held that is to be applied first
abbrev pub IsDrained : State → Type 0
IsDrained s = front_of s ≡ None

abbrev pub MayCall : State → Call → Type 0
MayCall s (begin now) = ⊤
MayCall s (frame incoming at now) = IsDone s × IsDrained s
MayCall s (bad_frame at now) = IsDone s × IsDrained s
MayCall s (did now) = ⊤
MayCall s (tick now) = ⊤
MayCall s (turn_done now) = IsDone s × IsDrained s
MayCall s (closed last now) = IsDone s × IsDrained s
MayCall s link_end = ⊤
MayCall s (live payloads now) = IsDone s × (s.facts.recorded.sent + length payloads < 2 ^ 40)
MayCall s (again payloads now) = IsDone s
MayCall s (taken count) = ⊤
MayCall s reserve = ⊤
MayCall s held_done = IsDone s × IsSome (front_of s)

-- each call keeps it
abbrev pub CallsKeepSound : Type 0
CallsKeepSound = (s : State) (call : Call) → StaysSound s → MayCall s call → StaysSound (step s call)

-- a reply with which the connection goes on leaves what is asked for and held below the live number
abbrev pub LineGoesOn : Type 0
LineGoesOn = (x : Around) (f : Facts) (i : Incoming) (ending : Option Ending) (held : List Numbered) → Sound x.config f → x.held ≡ least held
    → Windowed x.config x.most f ending held → front f.recorded.inbox_next held ≡ None → is_recoverable x.config.peer_flow ≡ true → InLine f held
    → (reply_of x f i).ending ≡ None → InLine (reply_of x f i).next (held_with (reply_of x f i).holds (payload_in i) held)

-- while a connection goes on, its reader is in line, and is so from a pending outcome on
pub record StaysInLine (s : State) : Type 0 where
  pub line : is_recoverable s.config.peer_flow ≡ true → s.ending ≡ None → InLine s.facts s.held
  pub line_then : is_recoverable s.config.peer_flow ≡ true → IfSome s.pending (λ o. o.ending ≡ None → InLine o.next s.held)

-- no frame is told of a connection that has ended, and no act is done of one
abbrev pub IsOpenAt : State → Call → Type 0
IsOpenAt s (frame incoming at now) = s.ending ≡ None
IsOpenAt s (did now) = s.ending ≡ None
IsOpenAt s call = ⊤

-- each call keeps it
abbrev pub CallsKeepLine : Type 0
CallsKeepLine = (s : State) (call : Call) → StaysSound s → StaysInLine s → MayCall s call → IsOpenAt s call → StaysInLine (step s call)
