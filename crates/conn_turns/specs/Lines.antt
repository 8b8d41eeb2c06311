-- A connection as one end sees it between its turns, and the frames that a turn takes of what it read (this project's profile).
use Rattle.std.specs.Prelude.{◌≡◌, ℕ, ◌+◌, Bool, false, not, ◌&&◌, is_some, if◌then◌else◌, List, [], ◌∷◌, ◌++◌, drop, length, replicate, None}
use Rattle.session_model.specs.Inbox.{Numbered}
use Rattle.sofh_frame.specs.Framing.{Frame, BeginsWith}
use Rattle.fixp_replies.specs.Acts.{is_record}
use Rattle.fixp_replies.specs.Incoming.{Incoming, IsIncoming}
use Rattle.fixp_replies.specs.Outcomes.{Outcome}
use Rattle.fixp_replies.specs.Replies.{reply_of}
use Rattle.flow_window.specs.Gathering.{ready}
use Rattle.fixp_machine.specs.Machine.{State, Call, did, held_done, run, around}
use Rattle.fixp_machine.specs.Machine as calls

-- the session machine; the bytes read of which no frame was taken yet; the place of the first of them among all bytes of the
-- connection; whether the link has given its end; whether a range was served as its last turn began; whether the link left output
-- unsent as it was sent last, which is so still as that turn began; and how many frames a turn takes at most, and entries of the outbox
-- it sends, which is the connection's
pub record Line : Type 0 where
  pub machine : State
  pub held : List ℕ
  pub place : ℕ
  pub over : Bool
  pub serves : Bool
  pub waits : Bool
  pub per_turn : ℕ

-- a frame that a turn took: its place, its message in its byte order, what that is to an end, whether its act is a record, which was
-- made stable and then told to be done, and how many held messages were applied behind it, each made stable and then told to be done
pub record TakenFrame : Type 0 where
  pub at : ℕ
  pub frame : Frame
  pub incoming : Incoming
  pub recorded : Bool
  pub helds : ℕ

-- how many bytes a frame takes: 6 of its header, and its message (Simple Open Framing Header)
abbrev pub size_of : Frame → ℕ
size_of f = 6 + length f.message

-- the machine's reply to a frame
abbrev pub reply_at : ℕ → Line → TakenFrame → Outcome
reply_at now l t = reply_of (around l.machine t.at now) l.machine.facts t.incoming

-- the machine is told of a frame, and then that its act is done, where that is a record
abbrev pub act_calls : ℕ → TakenFrame → List Call
act_calls now t = calls.frame t.incoming t.at now ∷ (if t.recorded then did now ∷ [] else [])

-- and then of each held message that was applied behind it
abbrev pub frame_calls : ℕ → TakenFrame → List Call
frame_calls now t = act_calls now t ++ replicate t.helds held_done

-- the held messages that the inbox awaits one after another behind the act of a frame
abbrev pub ready_in : State → List Numbered
ready_in m = ready m.facts.recorded.inbox_next m.held

abbrev pub ready_behind : ℕ → Line → TakenFrame → List Numbered
ready_behind now l t = ready_in (run l.machine (act_calls now t))

-- a range began in the turn: one is served, and none was as the turn began
abbrev pub has_begun : Line → Bool
has_begun l = is_some l.machine.facts.connection.serving && not l.serves

-- a further frame may be taken: the connection has not ended, and no range began in the turn
pub record MayTake (l : Line) : Type 0 where
  pub goes_on : l.machine.ending ≡ None
  pub free : has_begun l ≡ false

-- the frame stands at the front of what is held, and may be taken
pub record IsNext (l : Line) (t : TakenFrame) : Type 0 where
  pub may : MayTake l
  pub begins : BeginsWith l.held t.frame (size_of t.frame)
  pub at : t.at ≡ l.place
  pub is : IsIncoming t.frame.order t.frame.message t.incoming

-- the frame is the next one, its act is a record exactly where it was told to be done, and all held messages that the inbox then awaited
-- one after another were applied
pub record IsTaken (now : ℕ) (l : Line) (t : TakenFrame) : Type 0 where
  pub next : IsNext l t
  pub recorded : t.recorded ≡ is_record (reply_at now l t).act
  pub helds : t.helds ≡ length (ready_behind now l t)

-- what the line is once it was taken, and its act is done
unfoldable pub line_after : ℕ → Line → TakenFrame → Line
line_after now l t = record {
  machine = run l.machine (frame_calls now t);
  held = drop (size_of t.frame) l.held;
  place = l.place + size_of t.frame;
  over = l.over;
  serves = l.serves;
  waits = l.waits;
  per_turn = l.per_turn;
}

-- what the line is once frames were taken, one after another
abbrev pub lines_after : ℕ → Line → List TakenFrame → Line
lines_after now l [] = l
lines_after now l (t ∷ later) = lines_after now (line_after now l t) later

-- each frame is the next one where those before it were taken
abbrev pub AreTaken : ℕ → Line → List TakenFrame → Type 0
AreTaken now l [] = Unit {0}
AreTaken now l (t ∷ later) = IsTaken now l t × AreTaken now (line_after now l t) later
