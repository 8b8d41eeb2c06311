-- What an end accepts on a connection, of the bytes that the other wrote on it.
use Rattle.std.specs.Prelude.{◌≡◌, ℕ, ◌≤◌, List, ◌++◌, length, Some}
use Rattle.std.specs.List.{AllByRecursion}
use mathlib.Core.List.{IsPrefix}
use Rattle.sofh_frame.specs.Framing.{IsBytes}
use Rattle.sofh_frame.specs.Splits.{frames_of}
use Rattle.session_model.specs.Journal.{Entry}
use Rattle.session_model.specs.Inbox.{InboxRecord, next_number}
use Rattle.session_model.specs.Events.{Event}
use Rattle.session_model.specs.Lives.{TakenFrom}
use Rattle.fixp_machine.specs.Machine.{State, Call}
use Rattle.connection_laws.specs.Writing.{Piece, bytes_written, events_written}
use Rattle.connection_laws.specs.Framed.{IsLegalPiece}
use Rattle.connection_laws.specs.Courses.{Waiting, Course, beginning, reply_to, accepted_by, course_after}
use Rattle.connection_laws.specs.Standing.{AllMayStand}
use Rattle.turn_laws.specs.Came.{came, AreFirstOf}

-- the frames that came are the first of bytes that were read, and those are a beginning of what the peer wrote
pub record CameFrom (written : List ℕ) (calls : List Call) : Type 0 where
  pub bytes : List ℕ
  pub are_bytes : IsBytes bytes
  pub begins : IsPrefix bytes written
  pub frames : AreFirstOf (came calls) (frames_of bytes)

-- what was accepted is taken from these events, also with the event of the frame that waits for its act
pub record TakesFrom (written : List Event) (c : Course) : Type 0 where
  pub accepted : TakenFrom written c.accepted
  pub waiting : (w : Waiting) → c.waiting ≡ Some w → TakenFrom written (c.accepted ++ accepted_by (reply_to c.state w) w.incoming)

-- Over any calls of a connection, where each may come, and where the frames came from bytes that begin what the peer wrote as
-- legal frames: what is accepted is taken from the events that the peer wrote
abbrev pub LinkedBytes : Type 0
LinkedBytes = (h : List Entry) (s : State) (inbox : List InboxRecord) (now : ℕ) (calls : List Call) (written : List Piece)
    → s.facts.recorded.inbox_next ≡ next_number inbox → s.facts.recorded.sent ≤ length h → AllMayStand h (beginning s inbox now) calls
    → AllByRecursion IsLegalPiece written → CameFrom (bytes_written written) calls
    → TakesFrom (events_written written) (course_after (beginning s inbox now) calls)
