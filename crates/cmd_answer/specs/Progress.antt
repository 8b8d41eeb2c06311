-- How far `answer` has come in the middle of its input.
use Rattle.std.specs.Prelude.{◌≡◌, ℕ, ◌-◌, ◌*◌, ◌≤◌, true, false, List, [], ◌++◌, length, map, None, IsSome}
use Rattle.std.specs.List.{AllByRecursion}
use Rattle.sofh_frame.specs.Framing.{Frame, IsFrame, First, frame, rest, bad_length, bad_encoding, first_of}
use Rattle.sofh_frame.specs.Splits.{spelled_all}
use Rattle.fixp_shake.specs.declared.config.EndConfig.{EndConfig}
use Rattle.fixp_shake.specs.Flows.{is_recoverable}
use Rattle.fixp_replies.specs.Incoming.{Incoming, IsIncoming}
use Rattle.fixp_replies.specs.Replies.{reply_of, reply_to_bad_frame}
use Rattle.fixp_machine.specs.Machine.{State, fresh, connected, around, reply_applied, bytes_of}
use Rattle.cmd_answer.specs.declared.acceptor.Acceptor.{Acceptor}
use Rattle.cmd_answer.specs.declared.acceptor.Step.{Step}
use Rattle.cmd_answer.specs.declared.acceptor.Step.TheVariants.{Answered, Waits, Broken, Ended}
use Rattle.cmd_answer.specs.Lines.{line_of}
use Rattle.cmd_answer.specs.Answer.{Received, IsClassified, stage_after, first_facts, greatest_number, around_place}

-- an acceptor whose connection has begun and has read nothing
pub record IsNew (cfg : EndConfig) (a : Acceptor) : Type 0 where
  pub end : a.end ≡ connected (fresh cfg first_facts.recorded greatest_number) 0
  pub held : a.framer.held ≡ []
  pub lines : a.lines.items ≡ []
  pub place : a.place ≡ 0

-- an end that may be given a frame: its connection is open, no act is still to be done, and its peer's flow has no gaps
pub record IsReady (end : State) : Type 0 where
  pub begun : end.begun ≡ true
  pub going : end.ending ≡ None
  pub done : end.pending ≡ None
  pub moment : end.moment ≡ 0
  pub credentials : length end.config.credentials ≤ 2048
  pub flow : is_recoverable end.config.peer_flow ≡ false

-- an acceptor whose end is so
abbrev pub IsOpen : Acceptor → Type 0
IsOpen a = IsReady a.end

-- how many bytes the replies to these frames have at most
abbrev pub replies_limit : ℕ → ℕ
replies_limit frames = 2304 * frames

-- One frame was answered by the reply table, where nothing was held, and its line added.
pub record AnswersOne (old new : State) (lines added : List ℕ) (f : Frame) (place : ℕ) : Type 0 where
  pub incoming : Incoming
  pub is : IsIncoming f.order f.message incoming
  pub unheld : old.held ≡ []
  pub state : new ≡ reply_applied (record old { moment = 0; last_received = 0; room = old.room - 1 }) (reply_of (around old place 0) old.facts incoming) 0
  pub line : added ≡ lines ++ line_of (reply_of (around old place 0) old.facts incoming).act f

-- bytes that no frame begins with, whatever follows
abbrev pub IsBroken : First → Type 0
IsBroken (frame order message size) = ⊥
IsBroken rest = ⊥
IsBroken (bad_length n) = Unit {0}
IsBroken (bad_encoding encoding) = Unit {0}

-- what a step leaves
abbrev pub Leaves : Step → Acceptor → Type 0
Leaves Answered a = IsOpen a
Leaves Waits a = IsOpen a × (first_of a.framer.held ≡ rest)
Leaves Broken a = IsOpen a × IsBroken (first_of a.framer.held)
Leaves Ended a = IsSome a.end.ending

-- Of the bytes read, the frames were answered in order; what is not pushed yet is held in the acceptor.
pub record Stands (cfg : EndConfig) (read wire out : List ℕ) (a : Acceptor) : Type 0 where
  pub received : List Received
  pub joins : read ≡ spelled_all (map (λ h. h.frame) received) ++ a.framer.held
  pub each : AllByRecursion IsFrame (map (λ h. h.frame) received)
  pub classified : AllByRecursion IsClassified received
  pub config : a.end.config ≡ cfg
  pub most : a.end.most ≡ greatest_number
  pub stage : stage_after cfg received ≡ record {
    place = a.place;
    facts = a.end.facts;
    wire = wire ++ a.end.unsent;
    out = out ++ a.lines.items;
    ending = a.end.ending;
  }

-- The frames before bytes that are no frame were answered, and so were those bytes.
pub record BrokeOff (cfg : EndConfig) (read wire out : List ℕ) (a : Acceptor) : Type 0 where
  pub received : List Received
  pub joins : read ≡ spelled_all (map (λ h. h.frame) received) ++ a.framer.held
  pub each : AllByRecursion IsFrame (map (λ h. h.frame) received)
  pub classified : AllByRecursion IsClassified received
  pub broken : IsBroken (first_of a.framer.held)
  pub going : (stage_after cfg received).ending ≡ None
  pub place : a.place ≡ (stage_after cfg received).place
  pub wire_is : wire ++ a.end.unsent ≡ (stage_after cfg received).wire
      ++ bytes_of (reply_to_bad_frame (around_place cfg (stage_after cfg received).place) (stage_after cfg received).facts).written
  pub out_is : out ++ a.lines.items ≡ (stage_after cfg received).out
  pub ending : a.end.ending ≡ (reply_to_bad_frame (around_place cfg (stage_after cfg received).place) (stage_after cfg received).facts).ending

-- what was read is answered by this last step: as far as it goes, or, where the output is to be pushed first, a part of it
abbrev pub AnsweredAll : EndConfig → List ℕ → List ℕ → List ℕ → Acceptor → Step → Type 0
AnsweredAll cfg read wire out a Answered = Stands cfg read wire out a
AnsweredAll cfg read wire out a Waits = Stands cfg read wire out a
AnsweredAll cfg read wire out a Broken = BrokeOff cfg read wire out a
AnsweredAll cfg read wire out a Ended = Stands cfg read wire out a

-- what the last step leaves
abbrev pub Halts : Step → Acceptor → Type 0
Halts Answered a = IsOpen a
Halts Waits a = IsOpen a × (first_of a.framer.held ≡ rest)
Halts Broken a = Unit {0}
Halts Ended a = IsSome a.end.ending

-- all that was to be pushed is pushed
pub record IsEmptied (old new : Acceptor) : Type 0 where
  pub end : new.end ≡ record old.end { unsent = [] }
  pub framer : new.framer ≡ old.framer
  pub lines : new.lines.items ≡ []
  pub place : new.place ≡ old.place
