-- What follows of the frames that a turn takes.
use Rattle.std.specs.Prelude.{◌≡◌, ℕ, ◌+◌, List, ◌++◌, map}
use Rattle.std.specs.List.{AllByRecursion}
use Rattle.sofh_frame.specs.Framing.{Frame, IsFrame}
use Rattle.sofh_frame.specs.Splits.{spelled_all, place_behind}
use Rattle.fixp_machine.specs.Machine.{run}
use Rattle.conn_turns.specs.Lines.{Line, TakenFrame, lines_after, AreTaken}
use Rattle.session_model.specs.Journal.{History}
use Rattle.conn_turns.specs.Turns.{Work, works, first_calls, calls_of, calls_of_frames}
use Rattle.conn_turns.specs.Exact.{Served, line_sent}
use Rattle.session_model.specs.Inbox.{applied, payloads_of}
use Rattle.conn_turns.specs.News.{delivered_in}
use Rattle.conn_turns.specs.Frames.{added, told}

abbrev pub frames_in : List TakenFrame → List Frame
frames_in = map (λ (t : TakenFrame). t.frame)

-- what is held is the bytes of the frames, each of which is admissible, and what is held behind them; and the places are those
-- of the bytes
pub record Joins (l : Line) (frames : List TakenFrame) (behind : Line) : Type 0 where
  pub bytes : l.held ≡ spelled_all (frames_in frames) ++ behind.held
  pub each : AllByRecursion IsFrame (frames_in frames)
  pub place : behind.place ≡ l.place + place_behind (frames_in frames)
  pub over : behind.over ≡ l.over

abbrev pub FramesJoin : Type 0
FramesJoin = (now : ℕ) (l : Line) (frames : List TakenFrame) → AreTaken now l frames → Joins l frames (lines_after now l frames)

-- the machine behind the frames is what their calls make of it
abbrev pub FramesMakeCalls : Type 0
FramesMakeCalls = (now : ℕ) (l : Line) (frames : List TakenFrame) → (lines_after now l frames).machine ≡ run l.machine (calls_of_frames now frames)

-- a turn that served and then sent made the calls of its work: where the machine ticked, the frames were served, and what was
-- unsent then was sent, the machine is what those calls make of it
abbrev pub WorkMakesCalls : Type 0
WorkMakesCalls = (before seen : History) (old l behind new : Line) (w : Work)
    → l.machine ≡ run old.machine (first_calls w.now) → Served before seen l behind w → new ≡ line_sent behind w.sent w.lost
    → new.machine ≡ run old.machine (calls_of (works w))

-- what frames deliver are the payloads of the messages that they apply
abbrev pub FramesDeliverApplied : Type 0
FramesDeliverApplied = (now : ℕ) (l : Line) (frames : List TakenFrame)
    → delivered_in (told now l frames) ≡ payloads_of (applied (added now l frames))
