-- What a life makes of its senders, and of the Finish behind them (this project's profile).
use Rattle.std.specs.Prelude.{◌≡◌, All, List, Option, Result}
use Rattle.jr_dated.specs.declared.journal.Journal.{Ghosts}
use Rattle.jr_boxes.specs.declared.faults.SubmitFault.{SubmitFault}
use Rattle.gate_turn.specs.Views.{Part}
use Rattle.gate_senders.specs.declared.gate.Gate.{Gate}
use Rattle.gate_staff.specs.Runs.{IsAdmitted}
use Rattle.gate_staff.specs.Submitted as staff
pub use Rattle.gate_staff.specs.Submitted.{SomeMarked}
use Rattle.gate_staff.specs.declared.sender.Sender.{Sender}
use Rattle.conn_door.specs.declared.answer.ServeFault.{ServeFault}
use Rattle.conn_door.specs.declared.answer.LifeEnd.{LifeEnd}
use Rattle.conn_door.specs.Answers.{served, answer_of, IsUnrefused}

-- what becomes of senders and of the Finish, with refusals as a life answers them
abbrev pub LosesMark : (p q : Part) → Option ServeFault → Type 0
LosesMark p q refused = staff.LosesMark served p q refused

abbrev pub Finishes : (p q : Part) → Option ServeFault → Type 0
Finishes p q refused = staff.Finishes served p q refused

abbrev pub refusal_of : Option SubmitFault → Option ServeFault
refusal_of met = staff.refusal_of served met

module _ {J : Type 0} {G : Ghosts J} where
  abbrev pub OnlyClosed : Sender J G → Type 0
  OnlyClosed s = staff.OnlyClosed served s

  abbrev pub MetRefusal : List (Sender J G) → ServeFault → Type 0
  MetRefusal senders fault = staff.MetRefusal served senders fault

  abbrev pub IsRefusal : List (Sender J G) → Option ServeFault → Type 0
  IsRefusal senders refused = staff.IsRefusal served senders refused

  abbrev pub FinishedFirst : (ran after : List (Sender J G)) → Option ServeFault → Type 0
  FinishedFirst ran after refused = staff.FinishedFirst served ran after refused

  abbrev pub SubmittedAll : (gate : Gate J G) (before after : List (Sender J G)) → Option ServeFault → Type 0
  SubmittedAll gate before after refused = staff.SubmittedAll served gate before after refused

  -- The senders submitted, and it answers what comes first of them and of connections that ended so. Where no refusal is answered, and nothing
  -- failed, none was turned away
  pub record EndedSo (gate : Gate J G) (before after : List (Sender J G)) (connections : Result LifeEnd ServeFault) (result : Result (Unit {0}) ServeFault)
      : Type 0 where
    pub refused : Option ServeFault
    pub submitted : SubmittedAll gate before after refused
    pub answer : result ≡ answer_of connections refused
    pub admitted : IsUnrefused result → All IsAdmitted after
