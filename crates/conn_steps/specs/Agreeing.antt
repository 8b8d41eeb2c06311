-- What holds between the machine, the inbox and the outbox's pass at a turn's start and at its end (this project's profile).
use Rattle.std.specs.Prelude.{◌≡◌, ℕ, ◌+◌, ◌*◌, ◌≤◌, true, List, [], length, None}
use Rattle.jr_dated.specs.declared.journal.Journal.{Ghosts}
use Rattle.jr_kept.specs.declared.inbox.Inbox.{Inbox}
use Rattle.jr_kept.specs.Inbox.{next_of, is_negotiated, peer_last_of, flow_of, limits_of}
use Rattle.fixp_machine.specs.Machine.{State, front_of}
use Rattle.conn_steps.specs.Settling.{MayStand}

-- The machine between its calls, so many frames before a turn's frames end: no act is still to be done, no held message is to be applied
-- first, no moment lies ahead, there is room for the frames, what is untold is little, and behind the frames no more than so many bytes are
-- unsent: a reply has at most 2,304
pub record IsInTurn (m : State) (now frames bytes : ℕ) : Type 0 where
  pub begun : m.begun ≡ true
  pub done : m.pending ≡ None
  pub drained : front_of m ≡ None
  pub time : m.moment ≤ now
  pub room : frames ≤ m.room
  pub credentials : length m.config.credentials ≤ 2048
  pub unsent : length m.unsent + frames * 2304 ≤ bytes
  pub output : bytes ≤ 5000000
  pub untold : length m.untold + frames ≤ 256

-- the machine, were nothing held
abbrev pub unheld : State → State
unheld m = record m { held = [] }

-- of the own flow, and of what the machine was made with, nothing changed, but that fewer entries may count as sent
pub record KeepsOwn (old new : State) : Type 0 where
  pub config : new.config ≡ old.config
  pub most : new.most ≡ old.most
  pub sent : new.facts.recorded.sent ≤ old.facts.recorded.sent
  pub finish : new.facts.recorded.finish ≡ old.facts.recorded.finish

module _ {J : Type 0} {G : Ghosts J} where
  -- the inbox is of the peer's flow, it can take every number that the machine takes, and it records what the machine knows of it
  pub record Agrees (m : State) (box : Inbox J G) : Type 0 where
    pub flow : flow_of box ≡ m.config.peer_flow
    pub most : m.most ≤ (limits_of box).entries
    pub next : next_of box ≡ m.facts.recorded.inbox_next
    pub negotiated : is_negotiated box ≡ m.facts.recorded.negotiated
    pub peer_last : peer_last_of box ≡ m.facts.recorded.peer_last

  -- so it is but for messages that are gathered: the machine takes these for applied, and the inbox does not yet have them
  pub record AgreesBut (gathered : List (List ℕ)) (m : State) (box : Inbox J G) : Type 0 where
    pub flow : flow_of box ≡ m.config.peer_flow
    pub most : m.most ≤ (limits_of box).entries
    pub next : next_of box + length gathered ≡ m.facts.recorded.inbox_next
    pub negotiated : is_negotiated box ≡ m.facts.recorded.negotiated
    pub peer_last : peer_last_of box ≡ m.facts.recorded.peer_last
    pub may_stand : MayStand box gathered
