-- What `answer` makes of a recorded client: the replies of the acceptor to each frame, the lines of the
-- messages applied, and the status.
use Rattle.std.specs.Prelude.{◌≡◌, ℕ, ◌+◌, ◌-◌, ◌^◌, min, false, if◌then◌else◌, List, [], ◌∷◌, ◌++◌, length, map, fold, Option, Some, None, is_some}
use Rattle.std.specs.List.{AllByRecursion}
use Rattle.sofh_frame.specs.Framing.{Frame, spelled, IsFrame, First, bad_length, bad_encoding, first_of}
use Rattle.sofh_frame.specs.Splits.{spelled_all, IsNoFrame}
use Rattle.fixp_msgs.specs.declared.flow.Flow.TheVariants as flows
use Rattle.fixp_shake.specs.declared.config.Role.TheVariants.{Acceptor}
use Rattle.fixp_shake.specs.declared.config.EndConfig.{EndConfig}
use Rattle.fixp_shake.specs.declared.phase.Phase.TheVariants.{Idle}
use Rattle.fixp_replies.specs.declared.act.Ending.{Ending}
use Rattle.fixp_replies.specs.declared.act.Ending.TheVariants as endings
use Rattle.fixp_replies.specs.declared.facts.Facts.{Facts}
use Rattle.fixp_replies.specs.Incoming.{Incoming, IsIncoming}
use Rattle.fixp_replies.specs.Facts.{Around, connecting}
use Rattle.fixp_replies.specs.Outcomes.{Outcome}
use Rattle.fixp_replies.specs.Replies.{reply_of, reply_to_bad_frame}
use Rattle.fixp_machine.specs.Machine.{bytes_of}
use Rattle.cmd_config.specs.declared.settings.Settings.{Settings}
use Rattle.cmd_base.specs.declared.status.Bad.TheVariants as bad
use Rattle.cmd_base.specs.declared.status.Status.{Status}
use Rattle.cmd_base.specs.declared.status.Status.TheVariants.{Done, Message}
use Rattle.cmd_answer.specs.Lines.{line_of}

-- the greatest number of an application message (this project's profile)
abbrev pub greatest_number : ℕ
greatest_number = 2 ^ 26

-- the acceptor that `answer` is: it reads an unsequenced flow, and sends none
abbrev pub acceptor_of : Settings → EndConfig
acceptor_of s = record {
  role = Acceptor;
  session = s.session;
  own_flow = flows.None;
  peer_flow = flows.Unsequenced;
  keepalive = s.keepalive;
  credentials = s.credentials;
  version = s.version;
}

-- a new session: not negotiated, and awaiting message 1
abbrev pub first_facts : Facts
first_facts = connecting (record { negotiated = false; inbox_next = 1; peer_last = None; sent = 0; finish = None }) Idle

-- what stands around the reply to what is found at this place; every moment is 0, and nothing is held
abbrev pub around_place : EndConfig → ℕ → Around
around_place cfg place = record { config = cfg; most = greatest_number; at = place; moment = 0; held = None }

-- a frame of the input, and its message, classified
pub record Received : Type 0 where
  pub frame : Frame
  pub incoming : Incoming

abbrev pub IsClassified : Received → Type 0
IsClassified r = IsIncoming r.frame.order r.frame.message r.incoming

-- how far the answer has come: the place of the next frame in the input, the session's facts, the bytes
-- for WIRE and for OUT so far, and how the connection ended, if it has; then the place is that of the frame
-- that ended it
pub record Stage : Type 0 where
  pub place : ℕ
  pub facts : Facts
  pub wire : List ℕ
  pub out : List ℕ
  pub ending : Option Ending

abbrev pub first_stage : Stage
first_stage = record { place = 0; facts = first_facts; wire = []; out = []; ending = None }

-- the place behind a frame; one past the greatest number of 64 bits is given as that number
abbrev pub next_place : ℕ → Frame → ℕ
next_place place f = min (place + length (spelled f)) (2 ^ 64 - 1)

-- a frame is answered by the reply table
abbrev pub answered : Stage → Received → Outcome → Stage
answered s h o = record {
  place = if is_some o.ending then s.place else next_place s.place h.frame;
  facts = o.next;
  wire = s.wire ++ bytes_of o.written;
  out = s.out ++ line_of o.act h.frame;
  ending = o.ending;
}

-- frames behind the one that ended the connection are ignored
abbrev pub next_stage : EndConfig → Stage → Received → Stage
next_stage cfg s h = if is_some s.ending then s else answered s h (reply_of (around_place cfg s.place) s.facts h.incoming)

abbrev pub stage_after : EndConfig → List Received → Stage
stage_after cfg received = fold (next_stage cfg) first_stage received

-- what the whole answer is
pub record Answer : Type 0 where
  pub wire : List ℕ
  pub out : List ℕ
  pub status : Status

-- the status of a connection that ended at this place: a broken rule is given with it, unless both finishes were exchanged
-- before; anything else is done
abbrev pub status_of : ℕ → Ending → Status
status_of place endings.Finished = Done
status_of place (endings.PeerTerminated code) = Done
status_of place endings.LinkEnded = Done
status_of place (endings.Rejected template code) = Done
status_of place (endings.Violation violation) = Message (bad.Session place violation)

-- the answer where the connection ended at a frame
abbrev pub ended_answer : Stage → Ending → Answer
ended_answer s ending = record { wire = s.wire; out = s.out; status = status_of s.place ending }

-- the input ends behind a frame, or inside one
abbrev pub status_at_rest : ℕ → List ℕ → Status
status_at_rest place [] = Done
status_at_rest place (byte ∷ bytes) = Message (bad.Cut place)

-- the status of a connection that ended so at this place, if it ended
abbrev pub status_after : ℕ → Option Ending → Status
status_after place None = Done
status_after place (Some ending) = status_of place ending

-- the answer where bytes that are no frame stand behind the frames
abbrev pub broken_answer : Stage → Outcome → Answer
broken_answer s o = record { wire = s.wire ++ bytes_of o.written; out = s.out; status = status_after s.place o.ending }

-- the answer where no frame ended the connection, by what stands behind the frames, which begins with none
abbrev pub tail_answer : EndConfig → Stage → List ℕ → First → Answer
tail_answer cfg s tail (bad_length n) = broken_answer s (reply_to_bad_frame (around_place cfg s.place) s.facts)
tail_answer cfg s tail (bad_encoding e) = broken_answer s (reply_to_bad_frame (around_place cfg s.place) s.facts)
tail_answer cfg s tail _ = record { wire = s.wire; out = s.out; status = status_at_rest s.place tail }

abbrev pub answer_at_end : EndConfig → Stage → List ℕ → Option Ending → Answer
answer_at_end cfg s tail (Some ending) = ended_answer s ending
answer_at_end cfg s tail None = tail_answer cfg s tail (first_of tail)

abbrev pub answer_after : EndConfig → List Received → List ℕ → Answer
answer_after cfg received tail = answer_at_end cfg (stage_after cfg received) tail (stage_after cfg received).ending

-- The answer to an input: the input begins with these frames, each is classified so, and no frame follows
-- where none of them ended the connection.
pub record IsAnswer (cfg : EndConfig) (input : List ℕ) (answer : Answer) : Type 0 where
  pub received : List Received
  pub tail : List ℕ
  pub joins : input ≡ spelled_all (map (λ h. h.frame) received) ++ tail
  pub each : AllByRecursion IsFrame (map (λ h. h.frame) received)
  pub classified : AllByRecursion IsClassified received
  pub all : (stage_after cfg received).ending ≡ None → IsNoFrame (first_of tail)
  pub is : answer ≡ answer_after cfg received tail

-- the answer to an input is one
abbrev pub OneAnswer : Type 0
OneAnswer = (cfg : EndConfig) (input : List ℕ) (a b : Answer) → IsAnswer cfg input a → IsAnswer cfg input b → a ≡ b
