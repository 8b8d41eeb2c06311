-- What holds of an end between the calls that drive it (this project's profile).
use Rattle.std.specs.Prelude.{◌≡◌, ℕ, ◌+◌, ◌<◌, ◌≤◌, ◌^◌, true, length, IsSome, Result, Ok, Err}
use Rattle.jr_dated.specs.declared.journal.Journal.{Ghosts}
use Rattle.jr_kept.specs.declared.inbox.Inbox.{Inbox}
use Rattle.gate_turn.specs.Views.{Part}
use Rattle.gate_turn.specs.Listed.{known_at}
use Rattle.gate_turn.specs.declared.passes.Passes.{Passes}
use Rattle.gate_senders.specs.Gate.{senders_of, AllBackAt}
use Rattle.gate_senders.specs.declared.gate.Gate.{Gate}
use Rattle.gate_senders.specs.declared.kept.Kept.{Kept}
use Rattle.conn_turns.specs.Lines.{Line}
use Rattle.conn_turns.specs.declared.answer.TurnEnd.{TurnEnd}
use Rattle.conn_turns.specs.declared.answer.TurnEnd.TheVariants as ends
use Rattle.conn_turns.specs.declared.answer.TurnFault.{TurnFault}
use Rattle.conn_turns.specs.declared.answer.TurnFault.TheVariants as faults
use Rattle.conn_steps.specs.Agreeing.{Agrees}
use Rattle.conn_loop.specs.Conn.{GoesOn, HasSeen}
use Rattle.fixp_machine.specs.Machine.{State}
use Rattle.cases_made.specs.declared.standing.Standing.{Standing}
use Rattle.cases_made.specs.declared.standing.Standing.TheVariants as standings

-- where an end stands behind a turn that answered so
abbrev pub standing_of : Result TurnEnd TurnFault → Standing
standing_of (Ok ends.Go) = standings.Open
standing_of (Ok (ends.Ended ending)) = standings.Over
standing_of (Err faults.Link) = standings.Over
standing_of (Err faults.Inbox) = standings.GivenUp
standing_of (Err faults.Outbox) = standings.GivenUp
standing_of (Err (faults.Changed at)) = standings.GivenUp
standing_of (Err faults.Broken) = standings.GivenUp
standing_of (Err (faults.Full entries bytes)) = standings.GivenUp
standing_of (Err faults.Memory) = standings.GivenUp

module _ {J : Type 0} {G : Ghosts J} where
  -- the gate is one of so many senders, all of whose passes are in the list, and that of the connection behind them
  pub record HasPasses (gate : Gate J G) (passes : Passes (Kept J G)) (senders : ℕ) : Type 0 where
    pub back : AllBackAt gate passes
    pub made : (known_at passes 1).made ≡ senders + 1
    pub count : senders_of gate ≡ senders
    pub some : 1 ≤ senders
    pub few : senders ≤ 16

  -- the next turn may follow, and no more than so many bytes came before
  pub record CanTurn (l : Line) (most : ℕ) (p : Part) (box : Inbox J G) : Type 0 where
    pub goes : GoesOn l.machine
    pub place : l.place ≤ most
    pub seen : HasSeen l.machine p
    pub agrees : Agrees l.machine box

  -- no connection goes on, and the next one may begin
  pub record Rests (m : State) (p : Part) (box : Inbox J G) : Type 0 where
    pub over : m.begun ≡ true → IsSome m.ending
    pub time : m.moment < 2 ^ 44
    pub sent : m.facts.recorded.sent < 2 ^ 40
    pub credentials : length m.config.credentials ≤ 2048
    pub seen : HasSeen m p
    pub agrees : Agrees m box

  -- an open connection can turn, and behind one that is over the next one may begin
  pub record Stands (standing : Standing) (l : Line) (most : ℕ) (p : Part) (box : Inbox J G) : Type 0 where
    pub turns : standing ≡ standings.Open → CanTurn l most p box
    pub begins : standing ≡ standings.Over → Rests l.machine p box
