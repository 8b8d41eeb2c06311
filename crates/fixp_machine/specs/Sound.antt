-- What the facts of a connection keep to: the receiver and the inbox wait for the same number, only a recoverable flow has gaps
-- and a finish that waits for one, only an initiator waits for the answers of a handshake, and before that is done nothing is asked
-- for, missing or served.
use Rattle.std.specs.Prelude.{◌≡◌, ⊤, ℕ, ◌+◌, ◌<◌, ◌≤◌, ◌^◌, ◌||◌, ◌&&◌, Bool, true, false, not, length, Option, List, Some, None, IfSome, IsSome, IsTrue}
use Rattle.std.specs.List.{AllByRecursion}
use Rattle.fixp_msgs.specs.Message.{Message, negotiate, negotiation_response, negotiation_reject, establish, establishment_ack, establishment_reject, sequence, unsequenced_heartbeat, retransmit_request, retransmission, retransmit_reject, applied, not_applied, finished_sending, finished_receiving, terminate}
use Rattle.fixp_msgs.specs.Canonical.{IsWritable}
use Rattle.fixp_shake.specs.declared.config.EndConfig.{EndConfig}
use Rattle.fixp_shake.specs.Flows.{is_recoverable}
use Rattle.fixp_shake.specs.Phases.{is_negotiating, is_establishing, is_shaken}
use Rattle.fixp_msgs.specs.declared.numbering.Range.{Range}
use Rattle.flow_recover.specs.Receiving.{Receiving, number, reach}
use Rattle.session_model.specs.Inbox.{Numbered, numbers_of}
use Rattle.flow_window.specs.Window.{front}
use Rattle.flow_retrans.specs.Requests.{is_coming}
use Rattle.flow_retrans.specs.declared.request.Request.{Request}
use Rattle.flow_retrans.specs.declared.request.Request.TheVariants as requests
use Rattle.fixp_replies.specs.declared.act.Act.{Act}
use Rattle.fixp_replies.specs.declared.act.Act.TheVariants as acts
use Rattle.fixp_replies.specs.declared.facts.Facts.{Facts}
use Rattle.fixp_replies.specs.Expecting.{is_newer}
use Rattle.fixp_replies.specs.Incoming.{Incoming}
use Rattle.fixp_replies.specs.Facts.{Around, is_initiator, awaits_gap}
use Rattle.fixp_replies.specs.Outcomes.{Outcome}
use Rattle.fixp_replies.specs.Replies.{reply_of}

-- nothing was asked for or served yet, no number is missing, and the connection is not soft
pub record IsOpening (requester : Request) (receiver : Receiving) (serving : Option Range) (soft : Bool) : Type 0 where
  pub no_request : requester ≡ requests.Nothing
  pub no_gap : receiver.live ≡ receiver.next
  pub no_range : serving ≡ None
  pub firm : soft ≡ false

-- a connection is soft at an acceptor of version 1 alone, on a recoverable flow, and as long as it is, nothing is asked for
pub record IsSoft (cfg : EndConfig) (requester : Request) : Type 0 where
  pub newer : is_newer cfg ≡ true
  pub flow : is_recoverable cfg.peer_flow ≡ true
  pub role : is_initiator cfg.role ≡ false
  pub no_request : requester ≡ requests.Nothing

pub record Sound (cfg : EndConfig) (f : Facts) : Type 0 where
  pub waits : is_recoverable cfg.peer_flow ≡ true → f.connection.receiver.next ≡ f.recorded.inbox_next
  pub even : is_recoverable cfg.peer_flow ≡ false → f.connection.receiver.live ≡ f.connection.receiver.next
  pub unread : is_recoverable cfg.peer_flow ≡ false → awaits_gap f.connection.peer_finish ≡ None
  pub credentials : length cfg.credentials ≤ 2048
  pub sent : f.recorded.sent < 2 ^ 40
  pub next : is_recoverable cfg.peer_flow ≡ true → f.recorded.inbox_next + 1 < 2 ^ 64
  pub opening : is_shaken f.connection.phase ≡ false
      → IsOpening f.connection.requester f.connection.receiver f.connection.serving f.connection.soft
  pub soft : f.connection.soft ≡ true → IsSoft cfg f.connection.requester
  pub role : is_initiator cfg.role ≡ false → (is_negotiating f.connection.phase || is_establishing f.connection.phase) ≡ false

-- The least number held, where one is, fits the facts: none is held before the handshake is done, nor while the connection is soft
pub record HeldFits (held : Option ℕ) (f : Facts) : Type 0 where
  pub opening : is_shaken f.connection.phase ≡ false → held ≡ None
  pub soft : f.connection.soft ≡ true → held ≡ None

-- what is asked for, and what comes again, lies below the live number
abbrev pub Matches : Receiving → Request → Type 0
Matches r requests.Nothing = r.again ≡ None
Matches r (requests.Asked range) = (r.again ≡ None) × (range.from + range.count ≤ r.live)
Matches r (requests.Coming range next left) = (r.again ≡ Some next) × (range.from + range.count ≤ r.live) × (next + left ≤ r.live)

-- A reader of a recoverable flow whose connection goes on: what it asks for, what comes again and what is held lies below the live
-- number, which the number awaited is not past; and that number is held only while messages come again
pub record InLine (f : Facts) (held : List Numbered) : Type 0 where
  pub low : f.connection.receiver.next ≤ f.connection.receiver.live
  pub matches : Matches f.connection.receiver f.connection.requester
  pub below : AllByRecursion (λ n. n < f.connection.receiver.live) (numbers_of held)
  pub coming : IsSome (front f.recorded.inbox_next held) → is_coming f.connection.requester ≡ true

-- the number that the inbox awaits, once an act is done: an Apply and a Skip begin at it, and move it behind themselves
abbrev pub Advances : Act → (before after : ℕ) → Type 0
Advances acts.Nothing before after = after ≡ before
Advances (acts.Apply number) before after = (number ≡ before) × (after ≡ number + 1)
Advances (acts.Skip from count) before after = (from ≡ before) × (after ≡ from + count)
Advances acts.Negotiated before after = after ≡ before
Advances (acts.PeerFinished last) before after = after ≡ before
Advances (acts.Told from count) before after = after ≡ before
Advances acts.Ended before after = after ≡ before

-- the messages that open a session or a connection, which carry credentials
abbrev pub is_opening : Message → Bool
is_opening (negotiate _ _ _ _) = true
is_opening (negotiation_response _ _ _ _) = false
is_opening (negotiation_reject _ _ _ _) = false
is_opening (establish _ _ _ _ _ _) = true
is_opening (establishment_ack _ _ _ _ _) = false
is_opening (establishment_reject _ _ _ _) = false
is_opening (sequence _) = false
is_opening unsequenced_heartbeat = false
is_opening (retransmit_request _ _ _ _) = false
is_opening (retransmission _ _ _ _) = false
is_opening (retransmit_reject _ _ _ _) = false
is_opening (applied _ _) = false
is_opening (not_applied _ _) = false
is_opening (finished_sending _ _) = false
is_opening (finished_receiving _) = false
is_opening (terminate _ _ _) = false

-- a message that may be written: one with credentials by an initiator alone
pub record MayWrite (cfg : EndConfig) (m : Message) : Type 0 where
  pub opening : is_opening m ≡ true → is_initiator cfg.role ≡ true
  pub writable : IsWritable m

-- the numbers of an act are those of messages that may come
abbrev pub WithinMost : ℕ → Act → Type 0
WithinMost most acts.Nothing = ⊤
WithinMost most (acts.Apply number) = number ≤ most
WithinMost most (acts.Skip from count) = from + count ≤ most + 1
WithinMost most acts.Negotiated = ⊤
WithinMost most (acts.PeerFinished last) = ⊤
WithinMost most (acts.Told from count) = ⊤
WithinMost most acts.Ended = ⊤

-- entries may count as sent no longer as the handshake ends, where the own flow is recoverable, at an end of version 1
abbrev pub may_return : EndConfig → (f g : Facts) → Bool
may_return cfg f g = is_newer cfg && is_recoverable cfg.own_flow && not (is_shaken f.connection.phase) && is_shaken g.connection.phase

-- as many entries count as sent as before; there there may be fewer
pub record KeepsSent (cfg : EndConfig) (f g : Facts) : Type 0 where
  pub most : g.recorded.sent ≤ f.recorded.sent
  pub same : may_return cfg f g ≡ false → g.recorded.sent ≡ f.recorded.sent

-- a message is held under its own number, which is past the one that the inbox awaits, within reach of it, and not past the greatest;
-- the frame is accepted, and the connection goes on with it, its handshake done, and is not soft
pub record MayHold (cfg : EndConfig) (most : ℕ) (f : Facts) (o : Outcome) (n : ℕ) : Type 0 where
  pub flow : is_recoverable cfg.peer_flow ≡ true
  pub number : n ≡ number f.connection.receiver
  pub above : f.recorded.inbox_next < n
  pub near : n ≤ f.recorded.inbox_next + reach
  pub within : n ≤ most
  pub act : o.act ≡ acts.Nothing
  pub goes_on : o.ending ≡ None
  pub accepted : IsTrue o.accepted
  pub shaken : is_shaken f.connection.phase ≡ true
  pub shaken_still : is_shaken o.next.connection.phase ≡ true
  pub firm : o.next.connection.soft ≡ false

-- a number stays, or the next one takes its place
abbrev pub GoesByOne : (before after : ℕ) → Type 0
GoesByOne before after = (before ≤ after) × (after ≤ before + 1)

-- what an outcome makes of what is held: on a recoverable flow the inbox goes on by one message at most, what fitted fits still, and
-- a message that is to be held may be
pub record KeepsHeld (cfg : EndConfig) (most : ℕ) (f : Facts) (o : Outcome) : Type 0 where
  pub steps : is_recoverable cfg.peer_flow ≡ true → GoesByOne f.recorded.inbox_next o.next.recorded.inbox_next
  pub fits : (held : Option ℕ) → HeldFits held f → HeldFits held o.next
  pub holds : IfSome o.holds (λ n. MayHold cfg most f o n)

-- what an outcome keeps to
pub record KeepsSound (cfg : EndConfig) (most : ℕ) (f : Facts) (o : Outcome) : Type 0 where
  pub next : Sound cfg o.next
  pub sent : KeepsSent cfg f o.next
  pub advances : Advances o.act f.recorded.inbox_next o.next.recorded.inbox_next
  pub within : WithinMost most o.act
  pub writes : AllByRecursion (MayWrite cfg) o.written

-- of an end whose greatest number is below 2^40
abbrev pub SoundGoesOn : Type 0
SoundGoesOn = (x : Around) (f : Facts) (i : Incoming) → x.most < 2 ^ 40 → Sound x.config f → HeldFits x.held f → KeepsSound x.config x.most f (reply_of x f i)

-- whatever is held, where the receiver of a recoverable flow and the inbox wait for the same number
abbrev pub AwaitsSame : EndConfig → Facts → Type 0
AwaitsSame cfg f = is_recoverable cfg.peer_flow ≡ true → f.connection.receiver.next ≡ f.recorded.inbox_next

abbrev pub HoldingGoesOn : Type 0
HoldingGoesOn = (x : Around) (f : Facts) (i : Incoming) → AwaitsSame x.config f → KeepsHeld x.config x.most f (reply_of x f i)
