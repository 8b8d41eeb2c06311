-- The numbers of one flow at any moment: what its writer sent, what is under way, and what its reader awaits.
use Rattle.std.specs.Prelude.{◌≡◌, ⊤, ℕ, ◌+◌, ◌≤◌, ◌&&◌, ◌⊎◌, Bool, true, false, if◌then◌else◌, List, [], ◌∷◌, length, None}
use Rattle.std.specs.List.{AllByRecursion}
use Rattle.session_model.specs.Journal.{Entry}
use Rattle.fixp_msgs.specs.declared.messages.Expected.{Expected}
use Rattle.fixp_msgs.specs.declared.messages.Expected.TheVariants as expects
use Rattle.fixp_msgs.specs.Message.{establish, establishment_ack, sequence, unsequenced_heartbeat, retransmit_request, applied, not_applied, terminate}
use Rattle.flow_retrans.specs.declared.request.Request.{Request}
use Rattle.flow_retrans.specs.declared.request.Request.TheVariants as requests
use Rattle.flow_retrans.specs.Judging.{request_limit}
use Rattle.fixp_shake.specs.declared.config.EndConfig.{EndConfig}
use Rattle.fixp_shake.specs.Flows.{is_recoverable, is_sequenced}
use Rattle.fixp_shake.specs.Phases.{is_shaken, is_closing}
use Rattle.fixp_replies.specs.declared.facts.Facts.{Facts}
use Rattle.fixp_replies.specs.Expecting.{is_newer}
use Rattle.fixp_machine.specs.Machine.{State}
use Rattle.connection_laws.specs.Writing.{Piece, said}
use Rattle.honest_ends.specs.Numbers.{Awaited, exactly, at_most, softly, Runs, served, to_come, Line, Idle, Answers, goes_softly}
use Rattle.honest_ends.specs.Worlds.{World}

-- the number of the peer's next live message, as far as a reader knows: on a recoverable flow its live number, else the inbox's next
abbrev pub next_live : EndConfig → Facts → ℕ
next_live c f = if is_recoverable c.peer_flow then f.connection.receiver.live else f.recorded.inbox_next

-- A flow with numbers announces one in its handshake: from then on the reader awaits exactly that number, and at most it before, or where
-- the flow has none
abbrev pub is_announced : EndConfig → Facts → Bool
is_announced c f = is_sequenced c.peer_flow && is_shaken f.connection.phase

abbrev pub awaits : Bool → ℕ → Awaited
awaits true n = exactly n
awaits false n = at_most n

-- but for a soft reader
abbrev pub awaited : EndConfig → Facts → Awaited
awaited c f = if goes_softly f then softly f.connection.receiver.next f.connection.receiver.live else awaits (is_announced c f) (next_live c f)

-- a request names the range that is open, which the writer can send again: messages from number 1 on, as many as one request may ask for
abbrev pub Names : Request → Piece → Type 0
Names q (said (retransmit_request id timestamp first count)) = (q ≡ requests.Asked (record { from = first; count = count })) × (1 ≤ first) × (1 ≤ count)
    × (count ≤ request_limit)
Names q p = ⊤

-- A number that a reader has told is the one that its inbox awaits, at an end of version 1: an Establish tells it before the handshake
-- is done, and an acknowledgement where the reader is soft
abbrev pub ToldFirst : EndConfig → Facts → Expected → Type 0
ToldFirst c f (expects.Number n) = (n ≡ f.recorded.inbox_next) × (is_newer c ≡ true) × (is_shaken f.connection.phase ≡ false)
ToldFirst c f e = ⊤

abbrev pub ToldBack : EndConfig → Facts → Expected → Type 0
ToldBack c f (expects.Number n) = (n ≡ f.recorded.inbox_next) × (is_newer c ≡ true) × (f.connection.soft ≡ true)
ToldBack c f e = f.connection.soft ≡ false

abbrev pub TellsNext : EndConfig → Facts → Piece → Type 0
TellsNext c f (said (establish id timestamp keepalive next expected credentials)) = ToldFirst c f expected
TellsNext c f (said (establishment_ack id timestamp keepalive next expected)) = ToldBack c f expected
TellsNext c f p = ⊤

-- a message of neither flow's course
abbrev pub IsSpare : Piece → Type 0
IsSpare (said unsequenced_heartbeat) = ⊤
IsSpare (said (applied first count)) = ⊤
IsSpare (said (not_applied first count)) = ⊤
IsSpare (said (terminate id code reason)) = ⊤
IsSpare p = ⊥

-- the first message of a flow's course announces this number
abbrev pub ReturnsFirst : ℕ → List Piece → Type 0
ReturnsFirst n [] = ⊥
ReturnsFirst n (p ∷ later) = (p ≡ said (sequence n)) ⊎ (IsSpare p × ReturnsFirst n later)

-- A reader whose connection goes on. What is under way brings it from what it awaits to exactly one past what was sent, and to what is
-- left of the range that is served. What it asked for lies below its live number; a request under way back names it, and a
-- Retransmission under way answers it, and nothing is asked for before the handshake is done. Where it is soft, and awaits less than was
-- announced, its writer begins with the number that it has told, once its handshake is done
pub record Expects (writer reader : State) (way back : List Piece) : Type 0 where
  pub runs : Runs writer.config.own_flow (awaited reader.config reader.facts) (to_come reader.facts.connection.requester) way
      (writer.facts.recorded.sent + 1) (served writer.facts.connection.serving)
  pub line : is_recoverable reader.config.peer_flow ≡ true → Line reader.facts
  pub idle : is_recoverable reader.config.peer_flow ≡ false → Idle reader.facts
  pub opening : is_shaken reader.facts.connection.phase ≡ false → Idle reader.facts
  pub asks : AllByRecursion (Names reader.facts.connection.requester) back
  pub answers : AllByRecursion (Answers reader.facts.connection.requester) way
  pub restarts : goes_softly reader.facts ≡ true → is_shaken writer.facts.connection.phase ≡ true → ReturnsFirst reader.facts.connection.receiver.next way

-- Of one flow, whose writer's outbox comes to have these entries: no more was sent, and the reader takes each of their numbers. Its inbox
-- awaits at most one past what was sent, whatever was cut, and that is what it has told. And where its connection goes on and it has
-- not begun to close it, it expects what is under way
pub record Follows (h : List Entry) (writer reader : State) (way back : List Piece) : Type 0 where
  pub sent : writer.facts.recorded.sent ≤ length h
  pub most : length h ≤ reader.most
  pub one : is_recoverable reader.config.peer_flow ≡ true → 1 ≤ reader.facts.recorded.inbox_next
  pub next : reader.facts.recorded.inbox_next ≤ writer.facts.recorded.sent + 1
  pub told : AllByRecursion (TellsNext reader.config reader.facts) back
  pub expects : reader.ending ≡ None → is_closing reader.facts.connection.phase ≡ false → Expects writer reader way back

-- both flows
pub record Numbered (hi ha : List Entry) (w : World) : Type 0 where
  pub outward : Follows hi w.initiator w.acceptor w.outward w.homeward
  pub homeward : Follows ha w.acceptor w.initiator w.homeward w.outward
