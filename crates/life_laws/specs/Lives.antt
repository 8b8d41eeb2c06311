-- What was served over a life, as a life of the laws over lists of turns, and so of the session model.
use Rattle.std.specs.Prelude.{◌≡◌, ℕ, ◌+◌, ◌^◌, ◌≤◌, List, [], ◌++◌, length, Option, IfSome, option_to_list, Result}
use Rattle.std.specs.List.{AllByRecursion}
use mathlib.Core.List.{IsPrefix}
use Rattle.session_model.specs.Journal.{Entry, OutboxRecord, entries, History, BeginsHistory}
use Rattle.session_model.specs.Inbox.{InboxRecord, next_number}
use Rattle.session_model.specs.Lives.{Served, KeepsConnections}
use Rattle.fixp_msgs.specs.Payload.{IsApplication}
use Rattle.fixp_msgs.specs.declared.flow.Flow.TheVariants as flows
use Rattle.fixp_shake.specs.declared.config.EndConfig.{EndConfig}
use Rattle.fixp_machine.specs.Machine.{State, fresh}
use Rattle.fixp_machine.specs.Accepting.{model_flow}
use Rattle.connection_laws.specs.Living.{Opens}
use Rattle.connection_laws.specs.Ranges.{IsInRange}
use Rattle.turn_laws.specs.MachineLives.{life_in}
use Rattle.jr_dated.specs.declared.journal.Journal.{Ghosts}
use Rattle.jr_kept.specs.declared.inbox.Inbox.{Inbox}
use Rattle.jr_kept.specs.Inbox.{HoldsBox, next_of}
use Rattle.gate_turn.specs.Views.{Part}
use Rattle.conn_loop.specs.Conn.{Looks}
use Rattle.turn_laws.specs.Standing.{Has}
use Rattle.turn_laws.specs.Legs.{IsTimely}
use Rattle.turn_laws.specs.Lives.{AllAreTurns, state_after, inbox_after}
use Rattle.turn_laws.specs.LoopLives.{LoopLife, machine_life, IsRefusedOn, legs_in, MayTurn}
use Rattle.conn_door.specs.declared.answer.ServeFault.{ServeFault}
use Rattle.conn_door.specs.declared.answer.LifeEnd.{LifeEnd}
use Rattle.conn_serve.specs.Connections.{Connection, turned, all_of, adds_of, refused_of_all}
use Rattle.conn_serve.specs.Moments.{LifeAt}
use Rattle.conn_serve.specs.Turned.{MayBegin}
use Rattle.conn_serve.specs.Served.{ServedLife}
use Rattle.conn_serve.specs.Opening.{opened_state}

-- what a life of the loop served, in the words of the session model
abbrev pub served_of : LoopLife → Served
served_of l = (life_in (machine_life l)).served

-- A life of the loop over these outboxes, which opened with the machine in the state m on the inbox i, and whose connections are
-- these: each is turns over the closing outbox; where a call of the inbox's disk failed on the last one, what it tried may have been left, which are
-- these records. It keeps on them what the session model asks of it
pub record LifeOfLoop (opening closing refused : List OutboxRecord) (m : State) (i : List InboxRecord) (cs : List Connection) (left : List InboxRecord)
    : Type 0 where
  pub life : LoopLife
  pub outboxes : (life.opening_outbox ≡ opening) × (life.closing_outbox ≡ closing) × (life.refused_outbox ≡ refused)
  pub begins : (life.state ≡ m) × (life.inbox ≡ i)
  pub legs : legs_in life ≡ turned cs
  pub turns : AllAreTurns (entries closing) m i life.legs
  pub last : IfSome life.last (IsRefusedOn (entries closing) (state_after m i life.legs) (inbox_after m i life.legs))
  pub inbox : ((served_of life).opening_inbox ≡ i) × ((served_of life).closing_inbox ≡ i ++ adds_of cs) × ((served_of life).refused_inbox ≡ left)
  pub keeps : KeepsConnections (model_flow m.config.own_flow) (model_flow m.config.peer_flow) (entries opening) (entries closing) (served_of life)

-- a life of the loop may turn, where its numbers are in range, and what is beside it is as it has to be
abbrev pub LifeMayTurn : Type 0
LifeMayTurn = (opening closing refused : List OutboxRecord) (m : State) (i : List InboxRecord) (cs : List Connection) (left : List InboxRecord)
    → (l : LifeOfLoop opening closing refused m i cs left)
    → Opens (entries opening) (entries closing) m i → IsInRange m → AllByRecursion (λ (e : Entry). IsApplication e.payload) (entries closing)
    → AllByRecursion IsTimely (turned cs)
    → MayTurn m.config.own_flow m.config.peer_flow l.life

module _ {J : Type 0} {G : Ghosts J} where
  -- A life opens where its first connection may begin: the outbox begins with what its pass came to see. On a flow without numbers it
  -- opened on no more entries than were sent
  abbrev pub LifeOpens : Inbox J G → Type 0
  LifeOpens box =
      (p q : Part) (m : State) (opened h : List Entry) (i : List InboxRecord)
      → MayBegin m p box → Looks p q → HoldsBox box i [] → Has h q.seen → (m.config.own_flow ≡ flows.Unsequenced → length opened ≤ m.facts.recorded.sent)
      → Opens opened h m i

  -- Over this outbox the connections are turns, one behind another, and those that ended have left the machine so. The inbox that is
  -- left holds what the laws compute behind them, which is what it opened on and what they add; a stop may leave what was refused
  pub record IsTurned (h : List Entry) (m m' : State) (i : List InboxRecord) (ended : List Connection) (given_up : Option Connection) (box' : Inbox J G)
      : Type 0 where
    pub turns : AllAreTurns h m i (turned (all_of ended given_up))
    pub machine : state_after m i (turned ended) ≡ m'
    pub adds : inbox_after m i (turned (all_of ended given_up)) ≡ i ++ adds_of (all_of ended given_up)
    pub holds : HoldsBox box' (inbox_after m i (turned (all_of ended given_up))) (refused_of_all (option_to_list given_up))

  -- what is ensured of a served life says so of its connections, whatever the inboxes of this kind, where the outbox's disk tells its content
  abbrev pub ServedIsTurned : (tells : Type 0) → Inbox J G → Type 0
  ServedIsTurned tells box =
      (old new : LifeAt J G) (m : State) (result : Result LifeEnd ServeFault) (h : List Entry) (i : List InboxRecord)
      → (k : ServedLife tells old new m result) → tells
      → HoldsBox old.box i [] → Has h new.seen → m.facts.recorded.inbox_next ≡ next_number i → m.facts.recorded.sent ≤ length h
      → IsTurned h m k.mid i k.ended k.given_up new.box

  -- a served life is a life of the loop that keeps on its connections what the session model asks of it, where the outbox's disk tells its content
  abbrev pub ServedKeeps : (tells : Type 0) → Inbox J G → Type 0
  ServedKeeps tells box =
      (old new : LifeAt J G) (m : State) (result : Result LifeEnd ServeFault) (opening closing refused : List OutboxRecord) (i : List InboxRecord)
      → (k : ServedLife tells old new m result) → tells
      → Has (entries closing) new.seen → Opens (entries opening) (entries closing) m i
      → LifeOfLoop opening closing refused m i (all_of k.ended k.given_up) (refused_of_all (option_to_list k.given_up))

  -- a machine that is made of what the inbox has and the outbox had, as `serve` makes it, opens there
  abbrev pub OpenedOpens : Inbox J G → Type 0
  OpenedOpens box =
      (opened : History) (config : EndConfig) (most : ℕ) (h : List Entry) (i : List InboxRecord)
      → IsPrefix opened.made h → HoldsBox box i [] → Opens opened.made h (fresh config (opened_state opened box) most) i

  -- a machine that is made so is in range, where its configuration is one that `serve` takes, and it takes the number that the inbox awaits, or those before
  abbrev pub OpenedInRange : Inbox J G → Type 0
  OpenedInRange box =
      (opened : History) (config : EndConfig) (most : ℕ)
      → length config.session ≡ 16 → config.keepalive ≤ 60000 → length config.credentials ≤ 2048 → most ≤ 2 ^ 26 → next_of box ≤ most + 1
      → IsInRange (fresh config (opened_state opened box) most)

  -- So what `serve` ensures of a life is a life of the loop that may turn, where the outbox's disk tells its content, the machine is in range, and
  -- the closing outbox has less than 2^40 entries, payloads of application messages, and begins with what its pass came to see
  abbrev pub ServedIsALoopLife : (tells : Type 0) → Inbox J G → Type 0
  ServedIsALoopLife tells box =
      (old new : LifeAt J G) (opened : History) (config : EndConfig) (most : ℕ) (result : Result LifeEnd ServeFault)
      (opening closing refused : List OutboxRecord) (i : List InboxRecord)
      → (k : ServedLife tells old new (fresh config (opened_state opened old.box) most) result) → tells
      → entries opening ≡ opened.made → BeginsHistory opened old.seen → Has (entries closing) new.seen → HoldsBox old.box i []
      → IsInRange (fresh config (opened_state opened old.box) most) → AllByRecursion (λ (e : Entry). IsApplication e.payload) (entries closing)
      → (l : LifeOfLoop opening closing refused (fresh config (opened_state opened old.box) most) i (all_of k.ended k.given_up)
      (refused_of_all (option_to_list k.given_up)))
      × MayTurn config.own_flow config.peer_flow l.life
