-- Connections of strangers, over any calls and over turns.
use Rattle.std.specs.Prelude.{◌≡◌, ℕ, ◌≤◌, Bool, false, List, [], length}
use Rattle.sofh_frame.specs.Splits.{frames_of}
use Rattle.session_model.specs.Journal.{Entry}
use Rattle.session_model.specs.Inbox.{InboxRecord, next_number}
use Rattle.session_model.specs.Events.{messages}
use Rattle.fixp_msgs.specs.Canonical.{IsLegal, frame_bytes}
use Rattle.fixp_msgs.specs.Message.{Message}
use Rattle.fixp_shake.specs.declared.config.EndConfig.{EndConfig}
use Rattle.fixp_replies.specs.declared.facts.EndState.{EndState}
use Rattle.fixp_replies.specs.Incoming.{Incoming, session}
use Rattle.fixp_machine.specs.Machine.{State, Call}
use Rattle.connection_laws.specs.Writing.{events_written}
use Rattle.connection_laws.specs.Courses.{Course, beginning, course_after}
use Rattle.connection_laws.specs.Standing.{AllMayStand}
use Rattle.turn_laws.specs.Came.{came, AreFirstOf}
use Rattle.turn_laws.specs.Legs.{TurnedLeg, AreTurnsOf, given_on, course_on}
use Rattle.stranger_laws.specs.Opening.{opens, gives_keys, NoneIs, NoFrameIs, IsStrange, IsKeyless}

-- a connection begins where the end awaits the inbox's next number and has sent no more than the outbox has, and each of these calls may come
pub record MayCome (h : List Entry) (s : State) (inbox : List InboxRecord) (now : ℕ) (calls : List Call) : Type 0 where
  pub awaits : s.facts.recorded.inbox_next ≡ next_number inbox
  pub enough : s.facts.recorded.sent ≤ length h
  pub each : AllMayStand h (beginning s inbox now) calls

-- no message went over a connection: nothing of the peer's flow was accepted, and no entry of the outbox was written
pub record CarriesNothing (c : Course) : Type 0 where
  pub accepted : c.accepted ≡ []
  pub written : messages (events_written c.output) ≡ []

-- whatever calls come on a connection, where no frame that came opens the session
abbrev pub StrangerIsDeaf : Type 0
StrangerIsDeaf = (h : List Entry) (s : State) (inbox : List InboxRecord) (now : ℕ) (calls : List Call)
    → MayCome h s inbox now calls → NoneIs (opens s.config) (came calls) → CarriesNothing (course_after (beginning s inbox now) calls)

-- what is recorded is as before, but for the finish of the own outbox, which its senders may have made meanwhile
abbrev pub IsAsBefore : (before after : EndState) → Type 0
IsAsBefore before after = after ≡ record before { finish = after.finish }

-- no record was added, and what is recorded stays
pub record LeavesAll (before : EndState) (c : Course) : Type 0 where
  pub added : c.added ≡ []
  pub recorded : IsAsBefore before c.state.facts.recorded

-- whatever calls come, where no frame that came gives the keys
abbrev pub StrangerLeaves : Type 0
StrangerLeaves = (h : List Entry) (s : State) (inbox : List InboxRecord) (now : ℕ) (calls : List Call)
    → MayCome h s inbox now calls → NoneIs (gives_keys s.config) (came calls)
    → LeavesAll s.facts.recorded (course_after (beginning s inbox now) calls)

-- who gives no keys does not open the session
abbrev pub KeylessIsStrange : Type 0
KeylessIsStrange = (cfg : EndConfig) (given : List ℕ) → IsKeyless cfg given → IsStrange cfg given

-- in bytes without a whole frame is none such, whatever is asked of them
abbrev pub NoFrameIsStrange : Type 0
NoFrameIsStrange = (is : Incoming → Bool) (given : List ℕ) → frames_of given ≡ [] → NoFrameIs is given

-- the frame of a message is such where the message is
abbrev pub FrameIsStrange : Type 0
FrameIsStrange = (cfg : EndConfig) (m : Message) → IsLegal m → gives_keys cfg (session m) ≡ false → IsKeyless cfg (frame_bytes m)

-- none of the messages that came in the first of these frames is such, where no frame is
abbrev pub NoneCame : Type 0
NoneCame = (is : Incoming → Bool) (given : List ℕ) (ms : List Incoming) → NoFrameIs is given → AreFirstOf ms (frames_of given) → NoneIs is ms

-- so no message goes over a connection of turns whose link gave no frame that opens the session
abbrev pub StrangeTurns : Type 0
StrangeTurns = (h : List Entry) (s : State) (inbox : List InboxRecord) (t : TurnedLeg)
    → s.facts.recorded.inbox_next ≡ next_number inbox → s.facts.recorded.sent ≤ length h → AreTurnsOf h s t
    → IsStrange s.config (given_on t) → CarriesNothing (course_on s inbox t)

-- and one whose link gave no frame with the keys adds no record
abbrev pub KeylessTurns : Type 0
KeylessTurns = (h : List Entry) (s : State) (inbox : List InboxRecord) (t : TurnedLeg)
    → s.facts.recorded.inbox_next ≡ next_number inbox → s.facts.recorded.sent ≤ length h → AreTurnsOf h s t
    → IsKeyless s.config (given_on t) → LeavesAll s.facts.recorded (course_on s inbox t)
