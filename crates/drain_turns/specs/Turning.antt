-- That a turn lowers what two ends have still to do (this project's profile).
use Rattle.std.specs.Prelude.{◌≡◌, ◌⊎◌, ℕ, ◌+◌, ◌<◌, ◌≤◌, true, false, List, [], ◌++◌, length, Option, Some, None, IsSome}
use Rattle.session_model.specs.Journal.{History, BeginsHistory}
use mathlib.Core.List.{IsPrefix}
use Rattle.gw_links.specs.Links.{LinkTold, Carried}
use Rattle.fixp_shake.specs.declared.config.Role.{Role}
use Rattle.fixp_shake.specs.declared.config.Role.TheVariants as roles
use Rattle.fixp_replies.specs.Events.{lateness}
use Rattle.fixp_machine.specs.Machine.{State, around}
use Rattle.conn_turns.specs.Turns.{Turn, IsFaithful}
use Rattle.connection_laws.specs.Writing.{Piece}
use Rattle.turn_laws.specs.Legs.{is_lost, sent_in, IsTimelyTurn}
use Rattle.turn_laws.specs.Made.{TurnAt, MadeTurn}
use Rattle.honest_ends.specs.Worlds.{World}
use Rattle.drain_laws.specs.Calls.{beats_at}
use Rattle.drain_ends.specs.Acting.{Acts, BeatsFirst}
use Rattle.drain_turns.specs.Joints.{Half, Joint, Session, measure, Shows}

abbrev pub turn_at : Half → LinkTold → Option Carried → (clock : ℕ) → TurnAt
turn_at half told carried clock = record { told = Some told; carried = carried; seen = half.seen; clock = clock; line = half.line }

-- A turn of an end at this moment, which is none before its last one, over a link that gives all that fits, has room where output is left unsent, and neither fails nor ends, as one in memory: it took of the bytes
-- under way to the end, and left these
pub record TakesTurn (now : ℕ) (old new : Half) (way left : List ℕ) : Type 0 where
  pub turn : Turn
  pub told : LinkTold
  pub told_then : LinkTold
  pub carried : Option Carried
  pub carried_then : Option Carried
  pub clock : ℕ
  pub made : MadeTurn true (turn_at old told carried clock) (turn_at new told_then carried_then now) turn
  pub waits : told.waits ≡ way
  pub leaves : told_then.waits ≡ left
  pub goes_on : told.over ≡ false
  pub sound : is_lost turn ≡ false
  pub room : 0 < length new.line.machine.unsent → 0 < told_then.room
  pub later : old.line.machine.moment ≤ now
  pub faithful : IsFaithful turn
  pub timely : IsTimelyTurn turn

-- a turn in which an end does more than send: all that it wrote was sent, and it is neither too late for it nor silence at this moment
pub record IsFree (half : Half) (now : ℕ) : Type 0 where
  pub sent : half.line.machine.unsent ≡ []
  pub in_time : lateness (around half.line.machine 0 now) half.line.machine.facts half.line.machine.start half.line.machine.last_received ≡ None

-- By how much such a turn lowers it at least: where a message is under way to the end, by 1; and where it has something to do, or heartbeats stand first, by 4
pub data Due (per_turn : ℕ) (seen : History) (m : State) (way : List Piece) (k : ℕ) : Type 0 where
  reads : k ≡ 1 → 1 ≤ length way → Due per_turn seen m way k
  acts : k ≡ 4 → Acts per_turn seen m way → Due per_turn seen m way k
  beats : k ≡ 4 → BeatsFirst per_turn way → Due per_turn seen m way k

-- an end of a world, the other one, and what it wrote that the other has not read
abbrev pub own_of : Role → World → State
own_of roles.Initiator w = w.initiator
own_of roles.Acceptor w = w.acceptor

abbrev pub other_of : Role → World → State
other_of roles.Initiator w = w.acceptor
other_of roles.Acceptor w = w.initiator

abbrev pub written_by : Role → World → List Piece
written_by roles.Initiator w = w.outward
written_by roles.Acceptor w = w.homeward

-- Behind a turn of an end, of which it is said what is due, the two are a world again: the other end is as it was, and what was written stands behind what was. What
-- is still to be done has risen by no more than the heartbeat that its tick may have written, and fallen by what was due, unless the end's connection has ended with
-- this turn
pub record Turned (s : Session) (j : Joint) (w : World) (beats : ℕ) (IsDue : ℕ → Type 0) (end : Role) : Type 0 where
  pub world : World
  pub shows : Shows s j world
  pub same : other_of end world ≡ other_of end w
  pub adds : IsPrefix (written_by end w) (written_by end world)
  pub rises : measure s world ≤ measure s w + beats
  pub falls : (k : ℕ) → IsDue k → (measure s world + k ≤ measure s w + beats) ⊎ IsSome (own_of end world).ending

abbrev pub DueIn : Half → State → (way : List Piece) → (now : ℕ) → ℕ → Type 0
DueIn half m way now k = IsFree half now × Due half.line.per_turn half.seen m way k

-- so it is of each turn of the initiator, and of the acceptor, where a turn takes 4 messages at least, and 256 at most
pub record TurnsFall : Type 0 where
  pub initiator : (s : Session) (j : Joint) (w : World) (now : ℕ) (new : Half) (left : List ℕ) → Shows s j w → 4 ≤ j.initiator.line.per_turn → j.initiator.line.per_turn ≤ 256
      → j.initiator.line.machine.ending ≡ None → (t : TakesTurn now j.initiator new j.homeward left) → BeginsHistory new.seen s.outbox_i → j.acceptor.line.machine.unsent ≡ []
      → Turned s (record { initiator = new; acceptor = j.acceptor; outward = j.outward ++ sent_in t.turn; homeward = left }) w (beats_at j.initiator.line.machine now)
      (DueIn j.initiator w.initiator w.homeward now) roles.Initiator
  pub acceptor : (s : Session) (j : Joint) (w : World) (now : ℕ) (new : Half) (left : List ℕ) → Shows s j w → 4 ≤ j.acceptor.line.per_turn → j.acceptor.line.per_turn ≤ 256
      → j.acceptor.line.machine.ending ≡ None → (t : TakesTurn now j.acceptor new j.outward left) → BeginsHistory new.seen s.outbox_a → j.initiator.line.machine.unsent ≡ []
      → Turned s (record { initiator = j.initiator; acceptor = new; outward = left; homeward = j.homeward ++ sent_in t.turn }) w (beats_at j.acceptor.line.machine now)
      (DueIn j.acceptor w.acceptor w.outward now) roles.Acceptor
