-- A connection in the code, as a line; its beginning, and its end by a cut (this project's profile).
use Rattle.std.specs.Prelude.{◌≡◌, ℕ, ◌+◌, ◌^◌, ◌<◌, ◌≤◌, true, false, if◌then◌else◌, List, [], ◌∷◌, length, Option, Some, None, IfSome, Result, Ok}
use Rattle.fixp_replies.specs.declared.act.Ending.{Ending}
use Rattle.fixp_machine.specs.Machine.{State, front_of, begin, link_end, taken, run}
use Rattle.session_model.specs.Journal.{BeginsHistory}
use Rattle.fixp_replies.specs.Outgoing.{reply_limit}
use Rattle.fixp_shake.specs.Flows.{is_absent}
use Rattle.gate_turn.specs.Views.{Part}
use Rattle.conn_turns.specs.declared.answer.TurnEnd.{TurnEnd}
use Rattle.conn_turns.specs.declared.answer.TurnEnd.TheVariants as ends
use Rattle.conn_turns.specs.declared.answer.TurnFault.{TurnFault}
use Rattle.conn_turns.specs.Lines.{Line}
use Rattle.conn_steps.specs.Gathered.{payloads_in}
use Rattle.conn_loop.specs.declared.conn.Conn.{Conn}

-- what one end sees of the connection
abbrev pub line_of : Conn → Line
line_of c = record { machine = c.end; held = c.framer.held; place = c.place; over = c.over; serves = c.serves; waits = c.waits; per_turn = c.per_turn }

-- the payloads that its turn has gathered
abbrev pub gathered_by : Conn → List (List ℕ)
gathered_by c = payloads_in c.gathered

-- a connection that has not begun, a turn of which takes so many frames at most
abbrev pub new_line : State → (per_turn : ℕ) → Line
new_line m per_turn = record { machine = m; held = []; place = 0; over = false; serves = false; waits = false; per_turn = per_turn }

-- a connection begins: nothing is held
abbrev pub line_begun : Line → ℕ → Line
line_begun l now = record l { machine = run l.machine (begin now ∷ []); held = []; place = 0; over = false; serves = false; waits = false }

-- a connection is cut: what is held and unsent is dropped, and it ends, if it has not ended
abbrev pub line_cut : Line → Line
line_cut l = record l { machine = run l.machine (taken (length l.machine.unsent) ∷ link_end ∷ []); held = [] }

-- how many bytes are unsent at most behind the frames of a turn: where the link left output unsent before, of which there is some beside
-- the replies, and else, where the entries of the outbox come behind them; and how many once the machine was told what ends the frames
abbrev pub most_in_turn : Line → ℕ
most_in_turn l = if l.waits then 4900000 else 700000

abbrev pub most_closed : Line → ℕ
most_closed l = if l.waits then 5000000 else 750000

-- Between two turns a connection goes on: it was begun and has not ended, no act is still to be done, no held message is to be applied
-- first, nothing is still to be told, what is unsent is what a machine can hold, and a moment may follow
pub record GoesOn (m : State) : Type 0 where
  pub begun : m.begun ≡ true
  pub unended : m.ending ≡ None
  pub done : m.pending ≡ None
  pub drained : front_of m ≡ None
  pub untold : m.untold ≡ []
  pub unsent : length m.unsent ≤ 5100000
  pub time : m.moment < 2 ^ 44
  pub sent : m.facts.recorded.sent < 2 ^ 40
  pub credentials : length m.config.credentials ≤ 2048

-- the pass has seen the entries that were sent, and the finish that the machine was told of
pub record HasSeen (m : State) (p : Part) : Type 0 where
  pub entries : m.facts.recorded.sent ≤ length p.seen.made
  pub finish : IfSome m.facts.recorded.finish (λ n. (p.seen.finished ≡ true) × (length p.seen.made ≡ n))

-- between two calls of a turn nothing else changed: no act is pending that was not, and no held message to be applied, the same is
-- recorded and still to be told, no moment lies ahead, and little more is unsent
pub record KeepsAll (old new : State) (now : ℕ) : Type 0 where
  pub begun : new.begun ≡ old.begun
  pub done : old.pending ≡ None → new.pending ≡ None
  pub drained : front_of old ≡ None → front_of new ≡ None
  pub config : new.config ≡ old.config
  pub most : new.most ≡ old.most
  pub recorded : new.facts.recorded ≡ old.facts.recorded
  pub time : old.moment ≤ now → new.moment ≤ now
  pub unsent : length new.unsent ≤ length old.unsent + reply_limit old.config
  pub untold : new.untold ≡ old.untold

-- the machine may serve the outbox: it was begun, nothing is pending, no held message is to be applied first, no moment lies ahead, so
-- much is unsent, and the pass has seen what was sent
pub record MayServe (m : State) (now unsent : ℕ) (p : Part) : Type 0 where
  pub begun : m.begun ≡ true
  pub done : m.pending ≡ None
  pub drained : front_of m ≡ None
  pub time : m.moment ≤ now
  pub credentials : length m.config.credentials ≤ 2048
  pub little : length m.unsent ≤ unsent
  pub sent : m.facts.recorded.sent < 2 ^ 40
  pub seen : HasSeen m p

-- the machine is of the same configuration, and knows the same of the inbox
pub record SameInbox (old new : State) : Type 0 where
  pub config : new.config ≡ old.config
  pub most : new.most ≡ old.most
  pub next : new.facts.recorded.inbox_next ≡ old.facts.recorded.inbox_next
  pub negotiated : new.facts.recorded.negotiated ≡ old.facts.recorded.negotiated
  pub peer_last : new.facts.recorded.peer_last ≡ old.facts.recorded.peer_last
  pub untold : new.untold ≡ old.untold
  pub ending : new.ending ≡ old.ending

-- the new one is the same pass, which made and lost nothing: what it has seen begins with what it had seen, and its counts of faults and
-- of turns at the outbox did not fall
pub record Looks (p q : Part) : Type 0 where
  pub seen : BeginsHistory p.seen q.seen
  pub faults : p.faults ≤ q.faults
  pub turns : p.turns ≤ q.turns
  pub number : q.number ≡ p.number
  pub made : q.made ≡ p.made
  pub opening : q.opening ≡ p.opening
  pub mine : q.mine ≡ p.mine
  pub ended : q.ended ≡ p.ended
  pub lost : q.lost ≡ p.lost

-- A turn of this machine took the outbox twice at most; and once at least where it goes on, nothing was unsent at its start, and there is
-- an own flow
pub record HasLooked (m : State) (p q : Part) (result : Result TurnEnd TurnFault) : Type 0 where
  pub most : q.turns ≤ p.turns + 2
  pub least : result ≡ Ok ends.Go → m.unsent ≡ [] → is_absent m.config.own_flow ≡ false → p.turns < q.turns

-- what a turn that did not fail answers of a machine
abbrev pub answer_of : Option Ending → TurnEnd
answer_of None = ends.Go
answer_of (Some ending) = ends.Ended ending
