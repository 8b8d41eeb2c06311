-- What a frame that is not accepted does to a connection.
use Rattle.std.specs.Prelude.{◌≡◌, ◌⊎◌, ℕ, true, false, List, Option, Some, None, IsSome}
use Rattle.session_model.specs.Journal.{Entry}
use Rattle.session_model.specs.Events.{announce, handshake}
use Rattle.fixp_shake.specs.Phases.{is_closing}
use Rattle.fixp_replies.specs.declared.facts.Facts.{Facts}
use Rattle.fixp_replies.specs.Acts.{is_record}
use Rattle.fixp_replies.specs.Facts.{Around}
use Rattle.fixp_replies.specs.Incoming.{Incoming}
use Rattle.fixp_replies.specs.Outcomes.{Outcome}
use Rattle.fixp_replies.specs.Replies.{reply_of}
use Rattle.fixp_machine.specs.Machine.{State, Call}
use Rattle.fixp_machine.specs.Accepting.{event_of}
use Rattle.connection_laws.specs.Courses.{Course, course_after}
use Rattle.connection_laws.specs.Standing.{AllMayStand}

-- a frame that is not accepted has no event of the flow; or it announces in the handshake, is rejected, and the connection goes
-- on as it was; or the connection ends; or it is in Closing, where this end has written its Terminate
pub data Refusal (f : Facts) (i : Incoming) (o : Outcome) : Type 0 where
  without_event : event_of i ≡ None → Refusal f i o
  rejected : (n : Option ℕ) → event_of i ≡ Some (announce handshake n) → o.ending ≡ None → o.next ≡ f → Refusal f i o
  ended : IsSome o.ending → Refusal f i o
  closing : is_closing f.connection.phase ≡ true → Refusal f i o

abbrev pub RefusalEnds : Type 0
RefusalEnds = (x : Around) (f : Facts) (i : Incoming) → (reply_of x f i).accepted ≡ false → Refusal f i (reply_of x f i)

-- nothing is done about a frame but that it may end the connection
pub record PassesBy (f : Facts) (o : Outcome) : Type 0 where
  pub refused : o.accepted ≡ false
  pub unrecorded : is_record o.act ≡ false
  pub next : o.next ≡ f

abbrev pub ClosingIsDeaf : Type 0
ClosingIsDeaf = (x : Around) (f : Facts) (i : Incoming) → is_closing f.connection.phase ≡ true → PassesBy f (reply_of x f i)

-- a connection that has ended, or is in Closing, hears nothing
pub record IsDeaf (s : State) : Type 0 where
  pub done : s.pending ≡ None
  pub over : IsSome s.ending ⊎ (is_closing s.facts.connection.phase ≡ true)

abbrev pub NothingMore : Type 0
NothingMore = (h : List Entry) (c : Course) (calls : List Call) → IsDeaf c.state → AllMayStand h c calls
    → ((course_after c calls).accepted ≡ c.accepted) × IsDeaf (course_after c calls).state
