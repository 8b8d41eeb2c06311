-- One end in the course of its connection, between two of its turns, and what it wrote that the other has not read (this project's profile).
use Rattle.std.specs.Prelude.{◌≡◌, ℕ, ◌<◌, ◌^◌, List, ◌++◌, length, None}
use Rattle.std.specs.List.{AllByRecursion}
use mathlib.Core.List.{IsPrefix}
use Rattle.session_model.specs.Journal.{History, BeginsHistory}
use Rattle.fixp_machine.specs.Machine.{State, Call, reserve, step}
use Rattle.conn_turns.specs.Lines.{Line}
use Rattle.connection_laws.specs.Writing.{Piece, bytes_written}
use Rattle.connection_laws.specs.Framed.{IsLegalPiece}
use Rattle.connection_laws.specs.Courses.{Course, course_after}
use Rattle.connection_laws.specs.Standing.{AllMayStand}
use Rattle.connection_laws.specs.Ranges.{FitsCall}
use Rattle.turn_laws.specs.Standing.{StandsAt}

-- whatever calls come on a connection, where each may come and fits, all that was written on it is legal
abbrev pub WritesLegal : History → Course → Type 0
WritesLegal outbox b = (cs : List Call) → AllMayStand outbox.made b cs → AllByRecursion FitsCall cs → AllByRecursion IsLegalPiece (course_after b cs).output

-- one end's connection so far: the machine of the world is that of the line, but for the room
pub record Open (outbox : History) (b : Course) (s : State) (l : Line) : Type 0 where
  pub calls : List Call
  pub may : AllMayStand outbox.made b calls
  pub fits : AllByRecursion FitsCall calls
  pub at : StandsAt outbox.made (course_after b calls) l
  pub alike : step s reserve ≡ step l.machine reserve

-- what an end wrote and the other has not read: of its bytes, those held by the other, those under way, and, where the writer's connection
-- goes on, those unsent
pub record Way (pieces : List Piece) (writer : State) (held under : List ℕ) : Type 0 where
  pub legal : AllByRecursion IsLegalPiece pieces
  pub within : IsPrefix (held ++ under) (bytes_written pieces)
  pub exact : writer.ending ≡ None → bytes_written pieces ≡ (held ++ under) ++ writer.unsent

-- what is said of the outbox, which has less than 2^40 entries
pub record Passed (outbox : History) (after : History) : Type 0 where
  pub begins : BeginsHistory after outbox
  pub few : length outbox.made < 2 ^ 40
