-- What holds of an end between the calls that drive it (this project's profile).
use Rattle.std.specs.Prelude.{◌≡◌, ℕ, ◌<◌, ◌≤◌, ◌^◌, Bool, true, false, List, length, slice_index_or, IsSome, Result, Ok, Err, ⊤}
use Rattle.jr_dated.specs.declared.journal.Journal.{Ghosts}
use Rattle.jr_kept.specs.declared.inbox.Inbox.{Inbox}
use Rattle.gate_turn.specs.Views.{Part}
use Rattle.gate_turn.specs.Places.{known}
use Rattle.gate_staff.specs.declared.sender.Sender.{Sender}
use Rattle.conn_turns.specs.Lines.{Line}
use Rattle.conn_turns.specs.declared.answer.TurnEnd.{TurnEnd}
use Rattle.conn_turns.specs.declared.answer.TurnEnd.TheVariants as ends
use Rattle.conn_turns.specs.declared.answer.TurnFault.{TurnFault}
use Rattle.conn_turns.specs.declared.answer.TurnFault.TheVariants as faults
use Rattle.conn_steps.specs.Agreeing.{Agrees}
use Rattle.conn_loop.specs.Conn.{GoesOn, HasSeen}
use Rattle.conn_loop.specs.Live.{EndAt}
use Rattle.turn_laws.specs.Legs.{is_lost}
use Rattle.turn_laws.specs.Turned.{WasTurn, WasCut}
use Rattle.fixp_machine.specs.Machine.{State}
use Rattle.jr_dated.specs.declared.faults.FetchFault.TheVariants as fetch
use Rattle.jr_boxes.specs.declared.faults.SubmitFault.{SubmitFault}
use Rattle.jr_boxes.specs.declared.faults.SubmitFault.TheVariants as submit
use Rattle.jr_boxes.specs.declared.faults.CloseFault.{CloseFault}
use Rattle.jr_boxes.specs.declared.faults.CloseFault.TheVariants as closing
use Rattle.gate_staff.specs.declared.business.ResumeFault.{ResumeFault}
use Rattle.gate_staff.specs.declared.business.ResumeFault.TheVariants as resuming
use Rattle.gw_rehearse.specs.declared.standing.Standing.{Standing}
use Rattle.gw_rehearse.specs.declared.standing.Standing.TheVariants as standings

-- where an end stands behind a turn that answered so
abbrev pub standing_of : Result TurnEnd TurnFault → Standing
standing_of (Ok ends.Go) = standings.Open
standing_of (Ok (ends.Ended ending)) = standings.Over
standing_of (Err faults.Link) = standings.Over
standing_of (Err faults.Inbox) = standings.Failed
standing_of (Err faults.Outbox) = standings.Failed
standing_of (Err (faults.Changed at)) = standings.GivenUp
standing_of (Err faults.Broken) = standings.Failed
standing_of (Err (faults.Full entries bytes)) = standings.GivenUp
standing_of (Err faults.Memory) = standings.GivenUp

-- where it stands once it is known whether the link took all that the turn wrote: where not, nothing follows, unless a call of a disk failed
abbrev pub sent_by : (all : Bool) → Standing → Standing
sent_by true s = s
sent_by false standings.Over = standings.GivenUp
sent_by false standings.Open = standings.GivenUp
sent_by false standings.Failed = standings.Failed
sent_by false standings.GivenUp = standings.GivenUp

-- where it stands once what a turn applied was answered so: a refusal ends it, but that the outbox is closed already
abbrev pub refused_by : Standing → Result (Unit {0}) SubmitFault → Standing
refused_by s (Ok _) = s
refused_by s (Err submit.Closed) = s
refused_by s (Err submit.Fault) = standings.Failed
refused_by s (Err submit.Broken) = standings.Failed
refused_by s (Err (submit.Full entries bytes)) = standings.GivenUp
refused_by s (Err submit.Memory) = standings.GivenUp

-- and once its connection's pass was to see the mark behind the outbox: that it stands already is no fault
abbrev pub marked_by : Standing → Result (Unit {0}) CloseFault → Standing
marked_by s (Ok _) = s
marked_by s (Err closing.Closed) = s
marked_by s (Err closing.Fault) = standings.Failed
marked_by s (Err closing.Broken) = standings.Failed
marked_by s (Err closing.Memory) = standings.GivenUp

-- and once those who answer were to take their place behind the inbox
abbrev pub resumed_by : Result (Unit {0}) ResumeFault → Standing
resumed_by (Ok _) = standings.Over
resumed_by (Err (resuming.Submit fault)) = refused_by standings.Over (Err fault)
resumed_by (Err (resuming.Fetch fetch.Fault)) = standings.Failed
resumed_by (Err (resuming.Fetch fetch.Broken)) = standings.Failed
resumed_by (Err (resuming.Fetch fetch.Memory)) = standings.GivenUp
resumed_by (Err (resuming.Fetch (fetch.Changed at))) = standings.GivenUp

-- whether a connection is not over, and whether nothing follows
abbrev pub is_going : Standing → Bool
is_going standings.Over = false
is_going standings.Open = true
is_going standings.Failed = true
is_going standings.GivenUp = false

abbrev pub is_given : Standing → Bool
is_given standings.Over = false
is_given standings.Open = false
is_given standings.Failed = false
is_given standings.GivenUp = true

-- whether a call of a disk failed
abbrev pub is_failed : Standing → Bool
is_failed standings.Over = false
is_failed standings.Open = false
is_failed standings.Failed = true
is_failed standings.GivenUp = false

module _ {J : Type 0} {G : Ghosts J} where
  -- a turn was a whole one, and its link failed only where this is so
  abbrev pub WasWhole : (risen : Type 0) (eager : Bool) (before after : ℕ) (old new : EndAt J G) → Type 0
  WasWhole risen eager before after old new = (was : WasTurn ⊤ eager before after old new) × (is_lost was.turn ≡ true → risen)

  -- what a turn was, behind which an end stands so: a whole one; or one that was cut short, as a call of a disk failed
  abbrev pub WasMade : Standing → (risen : Type 0) (eager : Bool) (before after : ℕ) (old new : EndAt J G) → Type 0
  WasMade standings.Over risen eager before after old new = WasWhole risen eager before after old new
  WasMade standings.Open risen eager before after old new = WasWhole risen eager before after old new
  WasMade standings.Failed risen eager before after old new = (fault : TurnFault) × WasCut eager before after old new fault
  WasMade standings.GivenUp risen eager before after old new = ⊤

  -- each sender has the pass that it had
  pub record KeepsPasses (before after : List (Sender J G)) : Type 0 where
    pub long : length after ≡ length before
    pub each : (i : ℕ) (d : Sender J G) → i < length before → (slice_index_or after i d).pass ≡ (slice_index_or before i d).pass

  -- each sender has done so many
  pub record AreDone (senders : List (Sender J G)) (messages : List ℕ) : Type 0 where
    pub long : length messages ≡ length senders
    pub each : (i : ℕ) (d : Sender J G) → i < length senders → slice_index_or messages i 0 ≡ (slice_index_or senders i d).done

  -- the first sender's pass was used, and nothing else of the senders changed
  pub record UsesFirst (before after : List (Sender J G)) : Type 0 where
    pub long : length after ≡ length before
    pub number : (d : Sender J G) → (known (slice_index_or after 0 d).pass).number ≡ (known (slice_index_or before 0 d).pass).number
    pub made : (d : Sender J G) → (known (slice_index_or after 0 d).pass).made ≡ (known (slice_index_or before 0 d).pass).made
    pub others : (i : ℕ) (d : Sender J G) → 0 < i → slice_index_or after i d ≡ slice_index_or before i d

  -- the next turn may follow, and no more than so many bytes came before
  pub record CanTurn (l : Line) (most : ℕ) (p : Part) (box : Inbox J G) : Type 0 where
    pub goes : GoesOn l.machine
    pub place : l.place ≤ most
    pub seen : HasSeen l.machine p
    pub agrees : Agrees l.machine box

  -- no connection goes on, and the next one may begin
  pub record Rests (m : State) (p : Part) (box : Inbox J G) : Type 0 where
    pub over : m.begun ≡ true → IsSome m.ending
    pub time : m.moment < 2 ^ 44
    pub sent : m.facts.recorded.sent < 2 ^ 40
    pub credentials : length m.config.credentials ≤ 2048
    pub seen : HasSeen m p
    pub agrees : Agrees m box

  -- an open connection can turn, and behind one that is over the next one may begin
  pub record Stands (standing : Standing) (l : Line) (most : ℕ) (p : Part) (box : Inbox J G) : Type 0 where
    pub turns : standing ≡ standings.Open → CanTurn l most p box
    pub begins : standing ≡ standings.Over → Rests l.machine p box
