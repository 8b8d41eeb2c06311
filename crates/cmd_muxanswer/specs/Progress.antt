-- How far `muxanswer` has come in the middle of its input. No clause of a public call speaks of it.
use Rattle.std.specs.Prelude.{◌≡◌, ℕ, ◌+◌, ◌<◌, if◌then◌else◌, List, [], ◌∷◌, ◌++◌, length, slice_get, Option, Some, None, is_some, IfSome, Result, Ok, Err, Bool, true, false, ⊤}
use Rattle.std.specs.List.{AllByRecursion}
use Rattle.std.specs.Io.KnownBytes.{Consumes, Appends}
use Rattle.sofh_frame.specs.Framing.{Frame, IsFrame, spelled, first_of}
use Rattle.sofh_frame.specs.Splits.{spelled_all}
use Rattle.fixp_replies.specs.Incoming.{Incoming, IsIncoming}
use Rattle.fixp_replies.specs.Outcomes.{Outcome as Reply}
use Rattle.fixp_replies.specs.Replies.{reply_of}
use Rattle.fixp_machine.specs.Machine.{around, bytes_of}
use Rattle.fixp_mux.specs.Context.{context_frame, says}
use Rattle.fixp_mux.specs.Parts.{named_behind, WellRouted}
use Rattle.fixp_mux.specs.State.{IsOf}
use Rattle.routes.specs.Identifiers.{StandsAt}
use Rattle.cmd_config.specs.declared.settings.Settings.{Settings}
use Rattle.cmd_base.specs.Contents.{Content}
use Rattle.cmd_answer.specs.Lines.{line_of}
use Rattle.cmd_answer.specs.Answer.{Stage, acceptor_of, greatest_number, stage_after, next_place}
use Rattle.cmd_answer.specs.Progress.{AnswersOne, IsReady}
use Rattle.cmd_muxanswer.specs.declared.unrouted.Unrouted.{Unrouted}
use Rattle.cmd_muxanswer.specs.declared.outcome.Outcome.{Outcome}
use Rattle.cmd_muxanswer.specs.declared.outcome.Outcome.TheVariants.{Done}
use Rattle.cmd_muxanswer.specs.declared.seat.Seat.{Seat}
use Rattle.cmd_muxanswer.specs.declared.wire.Wire.{Wire}
use Rattle.cmd_muxanswer.specs.declared.wire.Written.{Written}
use Rattle.cmd_muxanswer.specs.declared.router.Router.{Router}
use Rattle.cmd_muxanswer.specs.declared.conversation.Conversation.{Conversation}
use Rattle.cmd_muxanswer.specs.declared.conversation.Step.{Step}
use Rattle.cmd_muxanswer.specs.declared.conversation.Step.TheVariants.{Took, Waits, Stops}
use Rattle.cmd_muxanswer.specs.Sessions.{AreSessions, identifiers}
use Rattle.cmd_muxanswer.specs.Input.{carried, place_of, IsUnrouted, IsUnroutedAt}
use Rattle.cmd_muxanswer.specs.Lines.{bytes_of_lines, lines_with, violation_text}
use Rattle.cmd_muxanswer.specs.Answer.{Came, AreTaken, of_place, is_writing, reach_after}
use Rattle.cmd_muxanswer.specs.Promise.{Gave}

-- ---- one session

-- it stands at a stage of its own answer, and all that it wrote was given on
pub record Sits (session : Settings) (s : Stage) (seat : Seat) : Type 0 where
  pub config : seat.end.config ≡ acceptor_of session
  pub most : seat.end.most ≡ greatest_number
  pub facts : seat.end.facts ≡ s.facts
  pub at : seat.at ≡ s.place
  pub ending : seat.end.ending ≡ s.ending

-- a frame may be handed to it
pub record IsUsable (seat : Seat) : Type 0 where
  pub unsent : seat.end.unsent ≡ []
  pub ready : seat.end.ending ≡ None → IsReady seat.end

-- a frame was handed to it, and its line added
pub record TakesOne (old new : Seat) (lines added : List ℕ) (f : Frame) : Type 0 where
  pub room : ℕ
  pub one : AnswersOne (record old.end { room = room }) new.end lines added f old.at
  pub at : new.at ≡ (if is_some new.end.ending then old.at else next_place old.at f)

-- its reply to a frame
abbrev pub seat_reply : Seat → Incoming → Reply
seat_reply seat i = reply_of (around seat.end seat.at 0) seat.end.facts i

-- the bytes of a reply as they are written, behind a Context where another session wrote last
abbrev pub context_before : Option ℕ → ℕ → List ℕ → List ℕ → List ℕ
context_before writing place id [] = []
context_before writing place id (byte ∷ bytes) = (if is_writing writing place then [] else spelled (context_frame id)) ++ byte ∷ bytes

abbrev pub writes_after : Option ℕ → ℕ → List ℕ → Option ℕ
writes_after writing place [] = writing
writes_after writing place (byte ∷ bytes) = Some place

-- replies of the session at a place were written
pub record Writes (old new : Wire) (place : ℕ) (id replies : List ℕ) : Type 0 where
  pub bytes : new.bytes.items ≡ old.bytes.items ++ context_before old.writing place id replies
  pub writing : new.writing ≡ writes_after old.writing place replies

-- a frame was answered by the session at a place, and what that makes was written
pub record AnswersAt (place : ℕ) (old new : Seat) (before after : Written) (f : Frame) : Type 0 where
  pub incoming : Incoming
  pub is : IsIncoming f.order f.message incoming
  pub unheld : old.end.held ≡ []
  pub config : new.end.config ≡ old.end.config
  pub most : new.end.most ≡ old.end.most
  pub facts : new.end.facts ≡ (seat_reply old incoming).next
  pub ending : new.end.ending ≡ (seat_reply old incoming).ending
  pub at : new.at ≡ (if is_some (seat_reply old incoming).ending then old.at else next_place old.at f)
  pub usable : IsUsable new
  pub wire : Writes before.wire after.wire place old.end.config.session (bytes_of (seat_reply old incoming).written)
  pub lines : after.lines.items ≡ before.lines.items
      ++ (bytes_of_lines (lines_with (place + 1) (line_of (seat_reply old incoming).act f)) ++ bytes_of_lines (lines_with (place + 1) (violation_text (seat_reply old incoming).ending)))

-- ---- all sessions

abbrev pub AreUsable : List Seat → Type 0
AreUsable seats = (place : ℕ) (seat : Seat) → slice_get seats place ≡ Some seat → IsUsable seat

-- frames may be given to its sessions
pub record IsOpen (r : Router) : Type 0 where
  pub seats : length r.seats.items ≡ length r.sessions
  pub known : AreSessions r.sessions
  pub named : IfSome r.named (λ place. place < length r.sessions)
  pub usable : AreUsable r.seats.items

-- each session stands at the stage of its own answer over the frames that came to it
abbrev pub AreSeated : List Settings → List Came → List Seat → Type 0
AreSeated sessions came seats =
    (place : ℕ) (session : Settings) (seat : Seat) → slice_get sessions place ≡ Some session → slice_get seats place ≡ Some seat
    → Sits session (stage_after (acceptor_of session) (of_place place came)) seat

-- the session that was named last stands there
abbrev pub IsNamed : List (List ℕ) → Option (List ℕ) → Option ℕ → Type 0
IsNamed ids None None = ⊤
IsNamed ids None (Some place) = ⊥
IsNamed ids (Some id) None = ⊥
IsNamed ids (Some id) (Some place) = StandsAt ids id place

-- Some frames were given to their sessions, and this is what came of it; of WIRE and OUT the first part is pushed
pub record Holds (sessions : List Settings) (frames : List Frame) (wire out : List ℕ) (r : Router) : Type 0 where
  pub came : List Came
  pub same : r.sessions ≡ sessions
  pub well : WellRouted (IsOf (identifiers sessions)) None frames
  pub taken : AreTaken sessions [] (carried None frames) came
  pub named : IsNamed (identifiers sessions) (named_behind None frames) r.named
  pub seats : AreSeated sessions came r.seats.items
  pub writing : r.written.wire.writing ≡ (reach_after came).writing
  pub wire_is : wire ++ r.written.wire.bytes.items ≡ spelled_all (reach_after came).wire
  pub out_is : out ++ r.written.lines.items ≡ bytes_of_lines (reach_after came).lines

-- what a frame that was looked at leaves: its session was given it, or none could be
abbrev pub Routes : List Settings → List Frame → List ℕ → List ℕ → Frame → Router → Option Unrouted → Type 0
Routes sessions frames wire out f r None = Holds sessions (frames ++ f ∷ []) wire out r
Routes sessions frames wire out f r (Some why) = Holds sessions frames wire out r × IsUnrouted (identifiers sessions) (named_behind None frames) (says f) why

-- ---- the bytes read

-- the frames of what was read were given out, as far as the framer holds no more of it
pub record Stands (sessions : List Settings) (read wire out : List ℕ) (c : Conversation) : Type 0 where
  pub frames : List Frame
  pub joins : read ≡ spelled_all frames ++ c.framer.held
  pub each : AllByRecursion IsFrame frames
  pub place : c.place ≡ place_of frames
  pub holds : Holds sessions frames wire out c.router

pub record StandsBefore (sessions : List Settings) (read wire out : List ℕ) (c : Conversation) (why : Unrouted) : Type 0 where
  pub stands : Stands sessions read wire out c
  pub unrouted : IsUnroutedAt (identifiers sessions) (named_behind None stands.frames) (first_of c.framer.held) why

-- what a step leaves
abbrev pub Leaves : Step → List Settings → List ℕ → List ℕ → List ℕ → Conversation → Type 0
Leaves Took sessions read wire out c = Stands sessions read wire out c
Leaves Waits sessions read wire out c = Stands sessions read wire out c
Leaves (Stops why) sessions read wire out c = StandsBefore sessions read wire out c why

-- all that was to be pushed is pushed
pub record IsEmptied (old new : Conversation) : Type 0 where
  pub framer : new.framer ≡ old.framer
  pub place : new.place ≡ old.place
  pub sessions : new.router.sessions ≡ old.router.sessions
  pub named : new.router.named ≡ old.router.named
  pub seats : new.router.seats ≡ old.router.seats
  pub writing : new.router.written.wire.writing ≡ old.router.written.wire.writing
  pub bytes : new.router.written.wire.bytes.items ≡ []
  pub lines : new.router.written.lines.items ≡ []

-- between two rounds: nothing is left to push
pub record IsIdle (c : Conversation) : Type 0 where
  pub ready : IsOpen c.router
  pub bytes : c.router.written.wire.bytes.items ≡ []
  pub lines : c.router.written.lines.items ≡ []

-- the bytes read and pushed so far are those that the conversation stands for
pub record Talks (sessions : List Settings) (before now : Content) (c : Conversation) : Type 0 where
  pub read : List ℕ
  pub wire : List ℕ
  pub out : List ℕ
  pub stands : Stands sessions read wire out c
  pub consumed : Consumes before.input now.input read
  pub wire_gained : Appends before.wire now.wire wire
  pub out_gained : Appends before.out now.out out

-- what an outcome says where the input is told
abbrev pub KeepsPromise : List Settings → Content → Content → Outcome → Type 0
KeepsPromise sessions before after outcome = (input : List ℕ) → before.input ≡ Some input → Gave sessions input before after outcome

-- what a round leaves: the conversation goes on, or it kept its promise
abbrev pub AfterRound : List Settings → Content → Content → Conversation → Result Bool Outcome → Type 0
AfterRound sessions before now c (Ok true) = Talks sessions before now c
AfterRound sessions before now c (Ok false) = KeepsPromise sessions before now Done
AfterRound sessions before now c (Err outcome) = KeepsPromise sessions before now outcome
