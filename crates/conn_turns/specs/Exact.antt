-- Which turn was made of a line, exactly (this project's profile).
use Rattle.std.specs.Prelude.{◌≡◌, ⊤, ℕ, ◌+◌, ◌*◌, ◌<◌, ◌≤◌, ◌==◌, nat_le, ◌&&◌, ◌||◌, not, if◌then◌else◌, Bool, List, [], ◌++◌, length, Option, Some, None, is_some, IfSome, IsTrue}
use Rattle.std.specs.List.{AllByRecursion}
use Rattle.session_model.specs.Journal.{History, BeginsHistory}
use Rattle.fixp_msgs.specs.Payload.{IsApplication}
use Rattle.gw_links.specs.declared.link.Got.{Got}
use Rattle.gw_links.specs.Links.{LinkTold, IsAnswer, count_of, gives_lesser}
use Rattle.fixp_machine.specs.Machine.{State, run}
use Rattle.conn_turns.specs.Lines.{Line, lines_after, AreTaken}
use Rattle.conn_turns.specs.Frames.{IsDone, unframed_at, is_link_over}
use Rattle.conn_turns.specs.Turns.{Work, first_calls, closing_calls, again_calls, outbox_calls, calls_of_frames, sending_calls, served_of, served_now, live_of, live_beside, finish_of}

-- the bytes that a framer holds at most
abbrev pub most_held : ℕ
most_held = 32780

-- how many bytes of output may be unsent where an end still receives of which a turn sends so many entries at most: all that these have, of 16,390
-- bytes each at most, and 37,760 beside them. So an end that has sent what a turn may, to a link that took nothing, still receives
abbrev pub most_unsent : (per_turn : ℕ) → ℕ
most_unsent per_turn = per_turn * 16390 + 37760

-- an end receives: no output is unsent, or the link left some and it is not more than that
abbrev pub receives : Line → Bool
receives l = (length l.machine.unsent == 0) || (l.waits && nat_le (length l.machine.unsent) (most_unsent l.per_turn))

-- One receive, of the whole room, exactly where there is some; what it found are these bytes. Where the link tells its bytes, some
-- came, or nothing waits, or no byte will come; and one that gives all that fits gave the lesser of the room and what waited
pub record Found (eager : Bool) (told : Option LinkTold) (room : ℕ) (received : List ℕ) (got : Got) : Type 0 where
  pub some : 0 < room
  pub counts : length received ≡ count_of got
  pub answers : IfSome told (λ t. IsAnswer t got)
  pub lesser : IsTrue eager → IfSome told (λ t. gives_lesser t room got)

abbrev pub Received : (eager : Bool) → Option LinkTold → (room : ℕ) → (received : List ℕ) → Option Got → Type 0
Received eager told room received None = (room ≡ 0) × (received ≡ [])
Received eager told room received (Some got) = Found eager told room received got

-- the line behind the tick, as its turn begins
abbrev pub line_ticked : Line → ℕ → Line
line_ticked old now = record old {
  machine = run old.machine (first_calls now);
  serves = is_some old.machine.facts.connection.serving;
  waits = old.waits && not (length old.machine.unsent == 0);
}

-- the line once these bytes were sent, or the link failed as it sent
abbrev pub line_sent : Line → (sent : List ℕ) → (lost : Bool) → Line
line_sent l sent lost = record l {
  machine = run l.machine (sending_calls sent lost);
  waits = not (length (run l.machine (sending_calls sent lost)).unsent == 0);
}

-- nothing of the outbox is due in a turn that began with output unsent
abbrev pub unless_waits : {A : Type 0} → Line → Option A → Option A
unless_waits l due = if l.waits then None else due

-- the machine behind the frames, once it was told of what ends them
abbrev pub closed_at : Line → Work → State
closed_at l w = run (lines_after w.now l w.frames).machine (closing_calls w)

-- as many payloads were sent as were due, each that of an application message, and none where nothing was due
abbrev pub IsAsDue : (due sent : Option (List (List ℕ))) → Type 0
IsAsDue None None = ⊤
IsAsDue None (Some sent) = ⊥
IsAsDue (Some due) None = ⊥
IsAsDue (Some due) (Some sent) = (length sent ≡ length due) × AllByRecursion IsApplication sent

-- Frames were taken as far as they go, and no more than the connection's number; the machine was told of what ends them, and of the outbox as much as was seen, and
-- nothing of it where the turn began with output unsent. What was seen of the outbox at each look begins with what was seen before it
pub record Served (h h' : History) (l behind : Line) (w : Work) : Type 0 where
  pub frames : AreTaken w.now l w.frames
  pub few : length w.frames ≤ l.per_turn
  pub last : IsDone (length w.frames) (lines_after w.now l w.frames)
  pub broken : w.broken ≡ unframed_at (length w.frames) (lines_after w.now l w.frames)
  pub link_over : w.link_over ≡ is_link_over (lines_after w.now l w.frames)
  pub due_again : w.due_again ≡ unless_waits l (served_of l.per_turn (served_now (closed_at l w)) w.at_again)
  pub due_live : w.due_live ≡ unless_waits l (live_beside w.again (live_of l.per_turn (run (closed_at l w) (again_calls w.now w.again)) w.at_live))
  pub again : IsAsDue w.due_again w.again
  pub live : IsAsDue w.due_live w.live
  pub finish : w.finish ≡ unless_waits l (finish_of (closed_at l w) w.at_finish)
  pub seen_again : BeginsHistory h w.at_again
  pub seen_live : BeginsHistory w.at_again w.at_live
  pub seen_finish : BeginsHistory w.at_live w.at_finish
  pub seen : w.at_finish ≡ h'
  pub machine : behind.machine ≡ run l.machine (calls_of_frames w.now w.frames ++ (closing_calls w ++ outbox_calls w))
  pub held : behind.held ≡ (lines_after w.now l w.frames).held
  pub place : behind.place ≡ (lines_after w.now l w.frames).place
  pub over : behind.over ≡ (lines_after w.now l w.frames).over
  pub serves : behind.serves ≡ (lines_after w.now l w.frames).serves
  pub waits : behind.waits ≡ (lines_after w.now l w.frames).waits
  pub per_turn : behind.per_turn ≡ (lines_after w.now l w.frames).per_turn
