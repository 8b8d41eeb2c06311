-- What an end accepts over the frames of one connection: the events of the peer's flow, and the records that it adds to the inbox.
use Rattle.std.specs.Prelude.{◌≡◌, ℕ, true, false, IsTrue, Contains, if◌then◌else◌, List, [], ◌∷◌, ◌++◌, Option, Some, None, option_to_list}
use Rattle.std.specs.List.{flat_map}
use Rattle.session_model.specs.Inbox.{Range, InboxRecord, Numbered, skips, next_number}
use Rattle.session_model.specs.Events.{Event, numbered, standing}
use Rattle.session_model.specs.Growth as model
use Rattle.session_model.specs.Growth.{Grown, GrownLater, recoverable}
use Rattle.flow_recover.specs.Receiving.{number}
use Rattle.flow_retrans.specs.declared.request.Request.TheVariants as requests
use Rattle.fixp_msgs.specs.declared.numbering.Range as ranges
use Rattle.fixp_msgs.specs.declared.flow.Flow.{Flow}
use Rattle.fixp_msgs.specs.declared.flow.Flow.TheVariants as flows
use Rattle.fixp_msgs.specs.Message.{Message, not_applied}
use Rattle.fixp_msgs.specs.Numbering.{announcement_of}
use Rattle.fixp_shake.specs.Flows.{is_recoverable, is_sequenced}
use Rattle.fixp_shake.specs.Phases.{is_shaken}
use Rattle.fixp_replies.specs.declared.act.Act.{Act}
use Rattle.fixp_replies.specs.declared.act.Act.TheVariants as acts
use Rattle.fixp_replies.specs.declared.facts.EndState.{EndState}
use Rattle.fixp_replies.specs.declared.facts.Facts.{Facts}
use Rattle.fixp_replies.specs.Incoming.{Incoming, application, session, wrong_order, too_short, unknown, payload_in}
use Rattle.fixp_replies.specs.Facts.{Around, awaits_gap, serves}
use Rattle.fixp_replies.specs.Events.{begun, turn_ended, finish_told}
use Rattle.fixp_replies.specs.Replies.{reply_of}
use Rattle.fixp_machine.specs.Machine.{counted_sent, past_held}

-- the kind of a flow, in the words of the session model
abbrev pub model_flow : Flow → model.Flow
model_flow flows.Recoverable = model.recoverable
model_flow flows.Idempotent = model.idempotent
model_flow flows.Unsequenced = model.unsequenced
model_flow flows.None = model.no_flow

-- the event of an incoming message on the peer's flow, if it has one
abbrev pub event_of : Incoming → Option Event
event_of (application payload) = Some (Event.message payload)
event_of (session m) = announcement_of m
event_of wrong_order = None
event_of too_short = None
event_of (unknown template) = None

-- the records that an act adds to the inbox
abbrev pub records_of : Act → Incoming → List InboxRecord
records_of acts.Nothing i = []
records_of (acts.Apply n) i = InboxRecord.apply (record { number = n; payload = payload_in i }) ∷ []
records_of (acts.Skip from count) i = InboxRecord.skip (record { first = from; count = count }) ∷ []
records_of acts.Negotiated i = InboxRecord.negotiated ∷ []
records_of (acts.PeerFinished last) i = InboxRecord.peer_finished last ∷ []
records_of (acts.Told from count) i = []
records_of acts.Ended i = []

-- the number of the next message of a flow with numbers: inside a retransmission the retransmission's
abbrev pub next_message : Flow → Facts → ℕ
next_message flow f = if is_recoverable flow then number f.connection.receiver else f.recorded.inbox_next

-- no request is open, no gap is known, and no finish waits for one
pub record AsksNothing (f : Facts) : Type 0 where
  pub no_request : f.connection.requester ≡ requests.Nothing
  pub no_gap : f.connection.receiver.live ≡ f.connection.receiver.next
  pub no_finish : awaits_gap f.connection.peer_finish ≡ None

-- the facts agree with an inbox of a flow, and with the number that stands announced. The end awaits the inbox's next number;
-- on a recoverable flow its receiver waits for the same one, and on any other nothing is asked for; and on a flow with numbers
-- none stands announced before the handshake is done, and from then on that of the next message
pub record Agrees (flow : Flow) (c : Option ℕ) (f : Facts) (inbox : List InboxRecord) : Type 0 where
  pub recorded : f.recorded.inbox_next ≡ next_number inbox
  pub waits : is_recoverable flow ≡ true → f.connection.receiver.next ≡ next_number inbox
  pub quiet : is_recoverable flow ≡ false → AsksNothing f
  pub stands : is_sequenced flow ≡ true → c ≡ (if is_shaken f.connection.phase then Some (next_message flow f) else None)

-- events grow an inbox by these records, and leave facts that agree with it
pub record GrowsBy (flow : Flow) (c : Option ℕ) (inbox : List InboxRecord) (es : List Event) (added : List InboxRecord) (next : Facts) : Type 0 where
  pub grown : Grown (model_flow flow) c es inbox (inbox ++ added)
  pub agrees : Agrees flow (standing c es) next (inbox ++ added)

-- a frame that is accepted grows an inbox that the facts agree with by the records of its act, as the session model has it of
-- the peer's flow; and the facts from then on agree with what it has become
abbrev pub AcceptedFrameGrows : Type 0
AcceptedFrameGrows = (x : Around) (f : Facts) (i : Incoming) (c : Option ℕ) (inbox : List InboxRecord)
    → Agrees x.config.peer_flow c f inbox → IsTrue (reply_of x f i).accepted
    → GrowsBy x.config.peer_flow c inbox (option_to_list (event_of i)) (records_of (reply_of x f i).act i) (reply_of x f i).next

-- a message that is held came in this frame, under this number
abbrev pub HoldsWhatCame : Type 0
HoldsWhatCame = (x : Around) (f : Facts) (i : Incoming) (c : Option ℕ) (inbox : List InboxRecord) (n : ℕ)
    → Agrees x.config.peer_flow c f inbox → (reply_of x f i).holds ≡ Some n
    → IsTrue (reply_of x f i).accepted × (numbered c (option_to_list (event_of i)) ≡ record { number = n; payload = payload_in i } ∷ [])

-- A held message is applied, which came earlier on the connection and is the one that the inbox awaits: the inbox is grown by it as the
-- session model has it of a recoverable flow, without a further event, and the facts agree with it
pub record GrowsHeld (flow : Flow) (earlier : List Event) (inbox : List InboxRecord) (f : Facts) (m : Numbered) : Type 0 where
  pub grown : GrownLater recoverable None earlier [] inbox (inbox ++ InboxRecord.apply m ∷ [])
  pub agrees : Agrees flow (standing None earlier) (past_held f m) (inbox ++ InboxRecord.apply m ∷ [])

abbrev pub HeldGrows : Type 0
HeldGrows = (flow : Flow) (earlier : List Event) (inbox : List InboxRecord) (f : Facts) (m : Numbered)
    → is_recoverable flow ≡ true → Agrees flow (standing None earlier) f inbox → Contains (numbered None earlier) m → m.number ≡ next_number inbox
    → GrowsHeld flow earlier inbox f m

-- a frame that is not accepted adds nothing to the inbox, and leaves facts that agree with it
abbrev pub RefusedFrameSpares : Type 0
RefusedFrameSpares = (x : Around) (f : Facts) (i : Incoming) (c : Option ℕ) (inbox : List InboxRecord)
    → Agrees x.config.peer_flow c f inbox → (reply_of x f i).accepted ≡ false
    → (records_of (reply_of x f i).act i ≡ []) × Agrees x.config.peer_flow c (reply_of x f i).next inbox

-- what an end does of its own between frames: a turn ends, the outbox's finish is told, entries are sent live, or some of a
-- range are sent again
pub data Own : Type 0 where
  turn_end : Around → (runs : List ranges.Range) → Own
  outbox_finish : Around → (last : ℕ) → Own
  live : (count : ℕ) → Own
  again : (rest : Option ranges.Range) → Own

abbrev pub facts_after : Facts → Own → Facts
facts_after f (turn_end x runs) = (turn_ended x f runs).next
facts_after f (outbox_finish x last) = (finish_told x f last).next
facts_after f (live count) = counted_sent f count
facts_after f (again rest) = serves f rest

-- it leaves facts that agree with the same inbox
abbrev pub OwnKeepsAgreeing : Type 0
OwnKeepsAgreeing = (flow : Flow) (c : Option ℕ) (f : Facts) (inbox : List InboxRecord) (o : Own)
    → Agrees flow c f inbox → Agrees flow c (facts_after f o) inbox

-- a connection begins, in either role, with facts that agree with its inbox, and nothing announced
abbrev pub BeginsAgreeing : Type 0
BeginsAgreeing = (x : Around) (recorded : EndState) (inbox : List InboxRecord) (flow : Flow)
    → recorded.inbox_next ≡ next_number inbox → Agrees flow None (begun x recorded).next inbox

-- the ranges that messages tell to be not applied
abbrev pub told_by : Message → List Range
told_by (not_applied from count) = record { first = from; count = count } ∷ []
told_by _ = []

abbrev pub told_in : List Message → List Range
told_in messages = flat_map told_by messages

-- a frame is answered by one NotApplied for each range that it skips, and by no other
abbrev pub FrameTells : Type 0
FrameTells = (x : Around) (f : Facts) (i : Incoming) (c : Option ℕ) (inbox : List InboxRecord)
    → Agrees x.config.peer_flow c f inbox → told_in (reply_of x f i).written ≡ skips (records_of (reply_of x f i).act i)
