-- What a turn did over its link, beside what it made of its line (this project's profile).
use Rattle.std.specs.Prelude.{◌≡◌, ◌⊎◌, ℕ, ◌+◌, ◌<◌, ◌≤◌, max, Bool, true, false, List, [], ◌++◌, length, Option, None, IsSome, IfSome, Result, Ok}
use Rattle.session_model.specs.Journal.{History}
use Rattle.gw_links.specs.declared.link.Got.{Got}
use Rattle.gw_links.specs.Links.{LinkTold, Carried, Moved}
use Rattle.fixp_machine.specs.Machine.{State, Call, run}
use Rattle.jr_dated.specs.declared.journal.Journal.{Ghosts}
use Rattle.conn_turns.specs.declared.answer.TurnEnd.{TurnEnd}
use Rattle.conn_turns.specs.declared.answer.TurnFault.{TurnFault}
use Rattle.conn_turns.specs.Lines.{Line, TakenFrame}
use Rattle.conn_turns.specs.Turns.{Turn, only_sends, works, link_lost, cut_short, not_begun, first_calls, calls_of_frames, closing_calls, outbox_calls, Refusal}
use Rattle.conn_turns.specs.Exact.{Received, receives, line_ticked, most_held}
use Rattle.conn_loop.specs.Conn.{answer_of}
use Rattle.conn_loop.specs.Live.{EndAt}
use Rattle.conn_loop.specs.Moving.{IsLossOf}
use Rattle.turn_laws.specs.Turns.{IsTurn, IsCutShort}
use Rattle.turn_laws.specs.Legs.{given_in, sent_in, moment_of}

-- what a turn finds, and what it leaves: what its link tells, and tells that it had carried; what its pass has seen of the outbox; what
-- its clock gave last; and the line
pub record TurnAt : Type 0 where
  pub told : Option LinkTold
  pub carried : Option Carried
  pub seen : History
  pub clock : ℕ
  pub line : Line

-- a live end, by what its clock gave last
abbrev pub turn_at : {J : Type 0} {G : Ghosts J} → EndAt J G → ℕ → TurnAt
turn_at e clock = record { told = e.told; carried = e.carried; seen = e.seen; clock = clock; line = e.line }

-- the calls of a whole turn before it sends
abbrev pub calls_unsent : Turn → List Call
calls_unsent (only_sends now sent lost) = first_calls now
calls_unsent (works w) = first_calls w.now ++ (calls_of_frames w.now w.frames ++ (closing_calls w ++ outbox_calls w))
calls_unsent (link_lost now) = first_calls now
calls_unsent (cut_short now received frames refused) = []
calls_unsent not_begun = []

-- more was unsent than an end receives beside, or the tick ended the connection: a turn only sends
abbrev pub SendsAlone : Line → ℕ → Type 0
SendsAlone l now = (receives l ≡ false) ⊎ IsSome (line_ticked l now).machine.ending

-- no more was unsent, and the tick left the connection open: a turn does more
abbrev pub DoesMore : Line → ℕ → Type 0
DoesMore l now = (receives l ≡ true) × ((line_ticked l now).machine.ending ≡ None)

-- it received once, of the whole room that was left
abbrev pub ReceivesOnce : (eager : Bool) → TurnAt → (received : List ℕ) → Option Got → Type 0
ReceivesOnce eager old received got = (room : ℕ) → room + length old.line.held ≡ most_held → Received eager old.told room received got

-- These bytes were sent of what was unsent in the state m: all that the link takes. Where the link failed, the turn answers as that says,
-- and else how the connection then stands
pub record SendsAll (m : State) (new : TurnAt) (sent : List ℕ) (lost : Bool) (result : Result TurnEnd TurnFault) : Type 0 where
  pub whole : lost ≡ false → m.unsent ≡ sent ++ new.line.machine.unsent
  pub full : lost ≡ false → 0 < length new.line.machine.unsent → IfSome new.told (λ t. t.room ≡ 0)
  pub answer : lost ≡ true → IsLossOf m new.line.machine result
  pub kept : lost ≡ false → result ≡ Ok (answer_of new.line.machine.ending)

-- why a whole turn did what it did, what it received, and that it sent all that its link takes
abbrev pub Does : (eager : Bool) (old new : TurnAt) → Result TurnEnd TurnFault → Turn → Type 0
Does eager old new result (only_sends now sent lost) =
    SendsAlone old.line now × SendsAll (run old.line.machine (calls_unsent (only_sends now sent lost))) new sent lost result
Does eager old new result (works w) =
    DoesMore old.line w.now × ReceivesOnce eager old w.received w.got
    × SendsAll (run old.line.machine (calls_unsent (works w))) new w.sent w.lost result
Does eager old new result (link_lost now) =
    DoesMore old.line now × IsLossOf (run old.line.machine (calls_unsent (link_lost now))) new.line.machine result
Does eager old new result (cut_short now received frames refused) = ⊥
Does eager old new result not_begun = ⊥

-- A whole turn, as the loop makes it: its moment is what its clock gave then, or the machine's last where that is later
pub record MadeTurn (eager : Bool) (old new : TurnAt) (t : Turn) : Type 0 where
  pub result : Result TurnEnd TurnFault
  pub is : IsTurn old.seen new.seen old.line new.line t
  pub does : Does eager old new result t
  pub moved : Moved old.told new.told old.carried new.carried (given_in t) (sent_in t)
  pub moment : moment_of t ≡ max new.clock old.line.machine.moment
  pub clock : old.clock ≤ new.clock

-- a turn that was cut short in its work, as the loop makes it: it received once, and sent nothing
pub record MadeCut (eager : Bool) (old new : TurnAt) (now : ℕ) (received : List ℕ) (frames : List TakenFrame) (refusal : Option Refusal) : Type 0 where
  pub cut : IsCutShort now received frames refusal old.line
  pub more : DoesMore old.line now
  pub found : ReceivesOnce eager old received cut.got
  pub moved : Moved old.told new.told old.carried new.carried received []
  pub moment : now ≡ max new.clock old.line.machine.moment
  pub clock : old.clock ≤ new.clock
