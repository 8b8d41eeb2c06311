-- The numbers under way between two ends: what a reader awaits, and what a writer's messages make of it.
use Rattle.std.specs.Prelude.{◌≡◌, ⊤, ℕ, ◌+◌, ◌-◌, ◌<◌, ◌≤◌, ◌&&◌, ◌⊎◌, Bool, true, false, nat_lt, if◌then◌else◌, List, [], ◌∷◌, Option, Some, None, is_some, unwrap_or, IfSome, IsSome}
use Rattle.session_model.specs.Journal.{Entry}
use Rattle.fixp_msgs.specs.declared.numbering.Range.{Range}
use Rattle.fixp_msgs.specs.declared.flow.Flow.{Flow}
use Rattle.fixp_msgs.specs.Message.{Message, negotiate, negotiation_response, negotiation_reject, establish, establishment_ack, establishment_reject, sequence, unsequenced_heartbeat, retransmit_request, retransmission, retransmit_reject, applied, not_applied, finished_sending, finished_receiving, terminate}
use Rattle.flow_recover.specs.Receiving as receiver_is
use Rattle.flow_retrans.specs.declared.request.Request.{Request}
use Rattle.flow_retrans.specs.declared.request.Request.TheVariants as requests
use Rattle.fixp_shake.specs.declared.config.EndConfig.{EndConfig}
use Rattle.fixp_shake.specs.declared.violation.Violation.{Violation}
use Rattle.fixp_shake.specs.declared.violation.Violation.TheVariants as violations
use Rattle.fixp_shake.specs.Flows.{is_recoverable, is_sequenced, is_absent}
use Rattle.fixp_shake.specs.Phases.{is_established, is_shaken}
use Rattle.fixp_replies.specs.declared.act.Ending.TheVariants as endings
use Rattle.fixp_replies.specs.declared.facts.Facts.{Facts}
use Rattle.fixp_replies.specs.Facts.{Around}
use Rattle.fixp_replies.specs.Outcomes.{Outcome}
use Rattle.fixp_replies.specs.Expecting.{is_newer}
use Rattle.fixp_replies.specs.Replies.{reply_of}
use Rattle.fixp_machine.specs.Machine.{State, Call, run}
use Rattle.fixp_machine.specs.Sound.{may_return, Matches}
use Rattle.connection_laws.specs.Writing.{Piece, said, entry, said_all}
use Rattle.connection_laws.specs.Standing.{MayStand}
use Rattle.two_ends.specs.Reading.{incoming_of}
use Rattle.honest_ends.specs.Worlds.{IsOther, written}

-- the peer of this end is in its session, and sends what it receives
pub record Peer (mine theirs : EndConfig) : Type 0 where
  pub session : theirs.session ≡ mine.session
  pub flow : mine.peer_flow ≡ theirs.own_flow

-- a message that is written once the handshake is done
abbrev pub IsFlowing : EndConfig → Piece → Type 0
IsFlowing cfg (entry payload) = is_absent cfg.own_flow ≡ false
IsFlowing cfg (said (negotiate id timestamp flow credentials)) = ⊥
IsFlowing cfg (said (negotiation_response id timestamp flow credentials)) = ⊥
IsFlowing cfg (said (negotiation_reject id timestamp code reason)) = ⊥
IsFlowing cfg (said (establish id timestamp keepalive next expected credentials)) = ⊥
IsFlowing cfg (said (establishment_ack id timestamp keepalive next expected)) = ⊥
IsFlowing cfg (said (establishment_reject id timestamp code reason)) = ⊥
IsFlowing cfg (said (sequence next)) = ⊤
IsFlowing cfg (said unsequenced_heartbeat) = ⊤
IsFlowing cfg (said (retransmit_request id timestamp first count)) = id ≡ cfg.session
IsFlowing cfg (said (retransmission id next timestamp count)) = id ≡ cfg.session
IsFlowing cfg (said (retransmit_reject id timestamp code reason)) = id ≡ cfg.session
IsFlowing cfg (said (applied first count)) = ⊤
IsFlowing cfg (said (not_applied first count)) = ⊤
IsFlowing cfg (said (finished_sending id last)) = (id ≡ cfg.session) × (is_absent cfg.own_flow ≡ false)
    × (is_sequenced cfg.own_flow ≡ true → is_some last ≡ true)
IsFlowing cfg (said (finished_receiving id)) = id ≡ cfg.session
IsFlowing cfg (said (terminate id code reason)) = id ≡ cfg.session

-- what a reader awaits as the number of the next live message: exactly this, once a number was announced on the connection, and
-- at most this before. A soft reader, which has told a number below the one announced, awaits one from there on to be announced, or
-- messages from the one announced on
pub data Awaited : Type 0 where
  exactly : ℕ → Awaited
  at_most : ℕ → Awaited
  softly : (low live : ℕ) → Awaited

-- a number that is announced may be the one awaited
abbrev pub Allows : Awaited → ℕ → Type 0
Allows (exactly b) n = b ≡ n
Allows (at_most b) n = b ≤ n
Allows (softly low live) n = low ≤ n

-- where nothing is under way, this is the number of the next message to be sent
abbrev pub IsAt : Awaited → ℕ → Type 0
IsAt (exactly b) n = b ≡ n
IsAt (at_most b) n = b ≤ n
IsAt (softly low live) n = (low ≤ n) × (live ≡ n)

-- the number of the next live message that a message announces, where the flow of its writer has numbers
abbrev pub announces : Flow → Piece → Option ℕ
announces flow (said (establish id timestamp keepalive next expected credentials)) = if is_sequenced flow then next else None
announces flow (said (establishment_ack id timestamp keepalive next expected)) = if is_sequenced flow then next else None
announces flow (said (sequence next)) = if is_sequenced flow then Some next else None
announces flow p = None

-- What each message makes of the number of the next live message, and of how many messages of a retransmission are still to come. A
-- live message and an announcement move the one, a retransmission the other
abbrev pub live_after : Flow → Piece → ℕ → Option ℕ → ℕ
live_after flow (entry payload) b None = b + 1
live_after flow (entry payload) b (Some n) = b
live_after flow (said m) b l = unwrap_or (announces flow (said m)) b

-- the flow starts with a message of the outbox, or with an announcement
abbrev pub starts : Flow → Piece → Bool
starts flow (entry payload) = true
starts flow (said m) = is_some (announces flow (said m))

abbrev pub awaited_after : Flow → Piece → Awaited → Option ℕ → Awaited
awaited_after flow p (exactly b) l = exactly (live_after flow p b l)
awaited_after flow p (at_most b) l = if is_some (announces flow p) then exactly (live_after flow p b l) else at_most (live_after flow p b l)
awaited_after flow p (softly low live) l = if starts flow p then exactly (live_after flow p live l) else softly low live

abbrev pub left_after : Piece → Option ℕ → Option ℕ
left_after (entry payload) None = None
left_after (entry payload) (Some n) = Some (n - 1)
left_after (said (sequence next)) l = None
left_after (said (retransmission id next timestamp count)) l = Some count
left_after (said _) l = l

-- a message of a retransmission is still to come, where one is under way; and none is
abbrev pub HasOne : Option ℕ → Type 0
HasOne None = ⊤
HasOne (Some n) = 1 ≤ n

abbrev pub IsWhole : Option ℕ → Type 0
IsWhole None = ⊤
IsWhole (Some n) = n ≡ 0

-- a Sequence ends a whole retransmission, and none begins in another
abbrev pub FitsLeft : Message → Option ℕ → Type 0
FitsLeft (sequence next) l = IsWhole l
FitsLeft (retransmission id next timestamp count) l = l ≡ None
FitsLeft _ l = ⊤

-- an announcement is of a number that may be awaited; and no more messages come than belong to a retransmission
abbrev pub Fits : Flow → Piece → Awaited → Option ℕ → Type 0
Fits flow (entry payload) a l = HasOne l
Fits flow (said m) a l = IfSome (announces flow (said m)) (λ n. Allows a n) × FitsLeft m l

-- Some messages of this flow bring a reader from what it awaits and what is left of a retransmission to this number and to so many, and
-- each fits where it stands
abbrev pub Runs : Flow → Awaited → Option ℕ → List Piece → ℕ → Option ℕ → Type 0
Runs flow a l [] c m = IsAt a c × (l ≡ m)
Runs flow a l (p ∷ ps) c m = Fits flow p a l × Runs flow (awaited_after flow p a l) (left_after p l) ps c m

-- what is served, of a range
abbrev pub served : Option Range → Option ℕ
served None = None
served (Some r) = Some r.count

-- a message answers the request that is open with all that was asked for, if it is a Retransmission; and it rejects none
abbrev pub Answers : Request → Piece → Type 0
Answers q (said (retransmission id next timestamp count)) = (q ≡ requests.Asked (record { from = next; count = count })) × (1 ≤ count)
Answers q (said (retransmit_reject id timestamp code reason)) = ⊥
Answers q p = ⊤

-- a violation that is not of numbers, and where this holds of the message not of a retransmission
abbrev pub NotNumber : Type 0 → Violation → Type 0
NotNumber A (violations.BadFrame at) = ⊤
NotNumber A (violations.UnknownTemplate id) = ⊤
NotNumber A (violations.NotInPhase template phase) = ⊤
NotNumber A (violations.OtherSession template) = ⊤
NotNumber A (violations.WentBack announced expected) = ⊥
NotNumber A (violations.MissingNext template) = ⊤
NotNumber A (violations.NumberTooLarge announced) = ⊥
NotNumber A (violations.BadRetransmission expected found) = A → ⊥
NotNumber A (violations.AfterFinish last found) = ⊤
NotNumber A (violations.FlowNone template) = ⊤
NotNumber A (violations.Silent last now) = ⊤
NotNumber A (violations.HandshakeLate start now) = ⊤

-- where an outcome ends a connection by a violation, it is such a one
abbrev pub InNumbers : Type 0 → Outcome → Type 0
InNumbers A o = (v : Violation) → o.ending ≡ Some (endings.Violation v) → NotNumber A v

-- how many messages of a retransmission are still to come
abbrev pub to_come : Request → Option ℕ
to_come requests.Nothing = None
to_come (requests.Asked range) = None
to_come (requests.Coming range next left) = Some left

-- a reader of a recoverable flow: what it awaits is not past the live number, and while it is soft it asks for nothing
pub record Line (f : Facts) : Type 0 where
  pub waits : f.connection.receiver.next ≡ f.recorded.inbox_next
  pub low : f.connection.receiver.next ≤ f.connection.receiver.live
  pub matches : Matches f.connection.receiver f.connection.requester
  pub unasked : f.connection.soft ≡ true → f.connection.requester ≡ requests.Nothing

-- it is soft, and its inbox awaits less than its live number
abbrev pub goes_softly : Facts → Bool
goes_softly f = f.connection.soft && nat_lt f.connection.receiver.next f.connection.receiver.live

-- what it awaits once a number was announced
abbrev pub expecting : Facts → Awaited
expecting f = if goes_softly f then softly f.connection.receiver.next f.connection.receiver.live else exactly f.connection.receiver.live

-- and no number below this is announced to it
abbrev pub lowest : Facts → ℕ
lowest f = if f.connection.soft then f.connection.receiver.next else f.connection.receiver.live

-- and what is held lies below that
abbrev pub HeldBelow : Around → Facts → Type 0
HeldBelow x f = IfSome x.held (λ n. n < lowest f)

-- a reader of another flow: it has no gap, asks for nothing, and is not soft
pub record Idle (f : Facts) : Type 0 where
  pub even : receiver_is.gap None f.connection.receiver ≡ None
  pub none : f.connection.requester ≡ requests.Nothing
  pub firm : f.connection.soft ≡ false

-- this is what it awaits, so many messages of a retransmission are still to come to it, and its inbox awaits no less than this
pub record Reaches (f : Facts) (least : ℕ) (a : Awaited) (l : Option ℕ) : Type 0 where
  pub line : Line f
  pub rises : least ≤ f.recorded.inbox_next
  pub reach : expecting f ≡ a
  pub left : to_come f.connection.requester ≡ l

-- the inbox awaited the message that came, and awaits the next one: none is held, and a retransmission comes in as before
pub record Applies (f : Facts) (l : Option ℕ) (o : Outcome) : Type 0 where
  pub number : receiver_is.number f.connection.receiver ≡ f.recorded.inbox_next
  pub next : o.next.recorded.inbox_next ≡ f.recorded.inbox_next + 1
  pub none : o.holds ≡ None
  pub left : is_some l ≡ is_some (to_come f.connection.requester)

-- A reply that breaks no rule of numbers, nor of a retransmission where that holds of the message. Behind it the reader has come so far,
-- where its connection goes on, and where it ends its inbox awaits what it did, as it does but for a message that it awaited
pub record Lined (A : Type 0) (f : Facts) (a : Awaited) (l : Option ℕ) (o : Outcome) : Type 0 where
  pub fine : InNumbers A o
  pub next : o.ending ≡ None → Reaches o.next f.recorded.inbox_next a l
  pub over : IsSome o.ending → o.next.recorded.inbox_next ≡ f.recorded.inbox_next
  pub moved : (o.next.recorded.inbox_next ≡ f.recorded.inbox_next) ⊎ Applies f l o

-- a message that a reader of a recoverable flow expects, whose numbers are within the limit
pub record Before (x : Around) (f : Facts) (p : Piece) : Type 0 where
  pub recoverable : is_recoverable x.config.peer_flow ≡ true
  pub line : Line f
  pub fits : Fits x.config.peer_flow p (at_most (lowest f)) (to_come f.connection.requester)
  pub held : HeldBelow x f
  pub top : starts x.config.peer_flow p ≡ true → live_after x.config.peer_flow p f.connection.receiver.live (to_come f.connection.requester) ≤ x.most + 1

-- the reply to it
abbrev pub After : Around → Facts → Piece → Outcome → Type 0
After x f p o =
    Lined (Answers f.connection.requester p) f (awaited_after x.config.peer_flow p (expecting f) (to_come f.connection.requester))
    (left_after p (to_come f.connection.requester)) o

-- the same of a reader of another flow, which awaits this number
pub record Rests (f : Facts) (b : ℕ) : Type 0 where
  pub idle : Idle f
  pub next : f.recorded.inbox_next ≡ b

pub record Other (A : Type 0) (f : Facts) (b : ℕ) (o : Outcome) : Type 0 where
  pub fine : InNumbers A o
  pub next : o.ending ≡ None → Rests o.next b
  pub over : IsSome o.ending → o.next.recorded.inbox_next ≡ f.recorded.inbox_next

-- a message that it expects
pub record BeforeOther (x : Around) (f : Facts) (p : Piece) : Type 0 where
  pub other : is_recoverable x.config.peer_flow ≡ false
  pub idle : Idle f
  pub fits : Fits x.config.peer_flow p (at_most f.recorded.inbox_next) None
  pub top : live_after x.config.peer_flow p f.recorded.inbox_next None ≤ x.most + 1

abbrev pub AfterOther : Around → Facts → Piece → Outcome → Type 0
AfterOther x f p o = Other (Answers f.connection.requester p) f (live_after x.config.peer_flow p f.recorded.inbox_next None) o

-- In Established a reader that expects what comes breaks no rule of numbers at it, nor of a retransmission where a Retransmission answers
-- its request and no request is rejected; and it expects behind it what the message makes of that, as long as its connection goes on
abbrev pub ReaderExpects : Type 0
ReaderExpects = (x : Around) (f : Facts) (theirs : EndConfig) (p : Piece) → Peer x.config theirs → is_established f.connection.phase ≡ true → IsFlowing theirs p
    → (Before x f p → After x f p (reply_of x f (incoming_of p)))
    × (BeforeOther x f p → AfterOther x f p (reply_of x f (incoming_of p)))

-- what an end of these facts brings its reader to: one past what was sent, and so many messages of the range that is served
abbrev pub RunsBetween : Flow → Facts → List Piece → Facts → Type 0
RunsBetween flow f ps g = Runs flow (exactly (f.recorded.sent + 1)) (served f.connection.serving) ps (g.recorded.sent + 1) (served g.connection.serving)

-- where fewer count as sent from then on: what is written brings a reader to the next number, from whatever it awaits that allows it
pub record Restarts (cfg : EndConfig) (f : Facts) (ps : List Piece) (g : Facts) : Type 0 where
  pub may : may_return cfg f g ≡ true
  pub runs : (a : Awaited) → Allows a (g.recorded.sent + 1)
      → Runs cfg.own_flow a (served f.connection.serving) ps (g.recorded.sent + 1) (served g.connection.serving)

abbrev pub RunsOn : EndConfig → Facts → List Piece → Facts → Type 0
RunsOn cfg f ps g = RunsBetween cfg.own_flow f ps g ⊎ Restarts cfg f ps g

-- before the handshake is done an end serves nothing
abbrev pub ServesLater : EndConfig → Facts → Type 0
ServesLater cfg f = is_newer cfg ≡ true → is_shaken f.connection.phase ≡ false → f.connection.serving ≡ None

-- what each reply writes, and each other call where it may come, brings the reader from the one to the other, or starts anew from the
-- number that the reply takes
abbrev pub WriterKeeps : Type 0
WriterKeeps =
    ((x : Around) (f : Facts) (p : Piece) → ServesLater x.config f
    → RunsOn x.config f (said_all (reply_of x f (incoming_of p)).written) (reply_of x f (incoming_of p)).next)
    × ((h : List Entry) (s : State) (call : Call) → IsOther h call → MayStand h s call
    → RunsBetween s.config.own_flow s.facts (written s (call ∷ [])) (run s (call ∷ [])).facts)
