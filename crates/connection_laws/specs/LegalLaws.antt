-- What a machine in range writes is legal.
use Rattle.std.specs.Prelude.{ℕ, ◌≤◌, List, length}
use Rattle.std.specs.List.{AllByRecursion}
use Rattle.sofh_frame.specs.Framing.{IsBytes}
use Rattle.session_model.specs.Journal.{Entry}
use Rattle.session_model.specs.Inbox.{InboxRecord}
use Rattle.fixp_msgs.specs.Grammar.{Spells}
use Rattle.fixp_msgs.specs.Message.{Message}
use Rattle.fixp_machine.specs.Machine.{State, Call}
use Rattle.connection_laws.specs.Courses.{Course, beginning, course_after}
use Rattle.connection_laws.specs.Framed.{IsLegalPiece}
use Rattle.connection_laws.specs.Standing.{AllMayStand}
use Rattle.connection_laws.specs.Ranges.{IsInRange, IsInTime, FitsMessage, FitsCall, IsOutbox}

-- the numbers of a message that bytes spell fit their fields
abbrev pub SpelledFits : Type 0
SpelledFits = (bytes : List ℕ) (m : Message) → IsBytes bytes → Spells bytes m → FitsMessage m

-- all that was written on a connection is legal, and the machine is in range still
pub record StaysLegal (c : Course) : Type 0 where
  pub legal : AllByRecursion IsLegalPiece c.output
  pub range : IsInRange c.state

-- So it is over any calls of a connection from its beginning on, where the machine is in range, the outbox has payloads of
-- application messages, each call may come, and each frame has numbers that fit
abbrev pub WrittenIsLegal : Type 0
WrittenIsLegal = (h : List Entry) (s : State) (inbox : List InboxRecord) (now : ℕ) (calls : List Call)
    → IsInRange s → s.facts.recorded.sent ≤ length h → IsOutbox h → IsInTime now
    → AllMayStand h (beginning s inbox now) calls → AllByRecursion FitsCall calls
    → StaysLegal (course_after (beginning s inbox now) calls)
