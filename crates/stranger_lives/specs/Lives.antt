-- Strangers in a served life: a connection whose link gave no frame with the keys changes nothing.
use Rattle.std.specs.Prelude.{◌≡◌, ◌≤◌, List, [], length, Result}
use Rattle.std.specs.List.{AllByRecursion}
use Rattle.session_model.specs.Journal.{Entry}
use Rattle.session_model.specs.Inbox.{InboxRecord, next_number}
use Rattle.fixp_machine.specs.Machine.{State}
use Rattle.jr_dated.specs.declared.journal.Journal.{Ghosts}
use Rattle.jr_kept.specs.declared.inbox.Inbox.{Inbox}
use Rattle.conn_turns.specs.News.{delivered_in}
use Rattle.turn_laws.specs.Standing.{Has}
use Rattle.turn_laws.specs.Legs.{given_on}
use Rattle.stranger_laws.specs.Opening.{IsKeyless}
use Rattle.conn_door.specs.declared.answer.ServeFault.{ServeFault}
use Rattle.conn_door.specs.declared.answer.LifeEnd.{LifeEnd}
use Rattle.conn_serve.specs.Connections.{Connection, all_of}
use Rattle.conn_serve.specs.Moments.{LifeAt}
use Rattle.conn_serve.specs.Served.{ServedLife}

-- a connection added no record, none was tried that a stop may leave, none was refused, and no message was delivered of it
pub record ChangesNothing (c : Connection) : Type 0 where
  pub adds : c.adds ≡ []
  pub tried : c.refused ≡ []
  pub wanted : c.wanted ≡ []
  pub delivered : delivered_in c.news ≡ []

-- so it is of each connection of a life whose link gave no frame with the keys
abbrev pub Strangers : State → List Connection → Type 0
Strangers m cs = AllByRecursion (λ (c : Connection). IsKeyless m.config (given_on c.leg) → ChangesNothing c) cs

module _ {J : Type 0} {G : Ghosts J} where
  -- what is ensured of a served life says so of its connections, where the outbox's disk tells its content, over each outbox that begins with what its
  -- pass came to see
  abbrev pub StrangersChangeNothing : (tells : Type 0) → Inbox J G → Type 0
  StrangersChangeNothing tells box =
      (old new : LifeAt J G) (m : State) (result : Result LifeEnd ServeFault) (h : List Entry) (i : List InboxRecord)
      → (k : ServedLife tells old new m result) → tells
      → Has h new.seen → m.facts.recorded.inbox_next ≡ next_number i → m.facts.recorded.sent ≤ length h
      → Strangers m (all_of k.ended k.given_up)
