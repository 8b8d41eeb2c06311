-- What `muxanswer` makes of a recorded client of several sessions: each frame is answered as the answer of its own session over its own
-- frames has it, in the order in which the frames came.
use Rattle.std.specs.Prelude.{◌≡◌, ℕ, ◌+◌, ◌==◌, if◌then◌else◌, List, [], ◌∷◌, ◌++◌, map, fold, slice_get, Option, Some, None, IsSome, ◌⊎◌, Bool, false}
use Rattle.sbe_prim.specs.declared.Order.TheVariants.{Little}
use Rattle.sofh_frame.specs.Framing.{Frame}
use Rattle.sofh_frame.specs.Splits.{spelled_all}
use Rattle.fixp_msgs.specs.Message.{Message}
use Rattle.fixp_msgs.specs.Canonical.{message_bytes}
use Rattle.fixp_replies.specs.Outcomes.{Outcome as Reply}
use Rattle.fixp_replies.specs.Replies.{reply_of}
use Rattle.fixp_mux.specs.Context.{context_frame}
use Rattle.cmd_config.specs.declared.settings.Settings.{Settings}
use Rattle.cmd_answer.specs.Lines.{line_of}
use Rattle.cmd_answer.specs.Answer.{Received, IsClassified, Stage, acceptor_of, stage_after, around_place}
use Rattle.cmd_muxanswer.specs.Input.{Closing}
use Rattle.cmd_muxanswer.specs.Sessions.{identifiers}
use Rattle.cmd_muxanswer.specs.Input.{Carried, carried, IsInput, place_of}
use Rattle.cmd_muxanswer.specs.Lines.{Line, lines_with, violation_text, bytes_of_lines}

-- a frame that came to the session at a place, which counts from 0, and its message, classified
pub record Came : Type 0 where
  pub place : ℕ
  pub session : Settings
  pub received : Received

-- the frames of the session at a place
abbrev pub of_place : ℕ → List Came → List Received
of_place place [] = []
of_place place (c ∷ came) = if c.place == place then c.received ∷ of_place place came else of_place place came

-- how far the session's own answer has come over the frames that came to it before
abbrev pub stage_at : List Came → Came → Stage
stage_at earlier c = stage_after (acceptor_of c.session) (of_place c.place earlier)

-- a frame is ignored where the connection of its session has ended
pub record Ignores (sessions : List Settings) (earlier : List Came) (k : Carried) : Type 0 where
  pub place : ℕ
  pub session : Settings
  pub stands : slice_get sessions place ≡ Some session
  pub named : session.session ≡ k.id
  pub over : IsSome (stage_after (acceptor_of session) (of_place place earlier)).ending

-- and else it comes to its session
pub record Takes (sessions : List Settings) (earlier : List Came) (k : Carried) (c : Came) : Type 0 where
  pub stands : slice_get sessions c.place ≡ Some c.session
  pub named : c.session.session ≡ k.id
  pub frame : c.received.frame ≡ k.frame
  pub classified : IsClassified c.received
  pub going : (stage_at earlier c).ending ≡ None

-- of these frames, one after another, those came to their sessions
abbrev pub AreTaken : (sessions : List Settings) (earlier : List Came) → List Carried → List Came → Type 0
AreTaken sessions earlier [] came = came ≡ []
AreTaken sessions earlier (k ∷ ks) [] = Ignores sessions earlier k × AreTaken sessions earlier ks []
AreTaken sessions earlier (k ∷ ks) (c ∷ came) =
    (Ignores sessions earlier k × AreTaken sessions earlier ks (c ∷ came)) ⊎ (Takes sessions earlier k c × AreTaken sessions (earlier ++ c ∷ []) ks came)

-- the reply to a frame is that of its session's own answer
abbrev pub reply_in : Stage → Came → Reply
reply_in s c = reply_of (around_place (acceptor_of c.session) s.place) s.facts c.received.incoming

-- the frames of a reply
abbrev pub frame_of : Message → Frame
frame_of m = record { order = Little; message = message_bytes m }

abbrev pub frames_in : Reply → List Frame
frames_in o = map frame_of o.written

-- its lines: a message that was applied, and a rule that was broken
abbrev pub lines_in : ℕ → Frame → Reply → List Line
lines_in number f o = lines_with number (line_of o.act f) ++ lines_with number (violation_text o.ending)

-- how far the answer has come: the frames that came, the place of the session that wrote last, the frames for WIRE, Contexts among them, and
-- the lines for OUT
pub record Reach : Type 0 where
  pub came : List Came
  pub writing : Option ℕ
  pub wire : List Frame
  pub lines : List Line

abbrev pub first_reach : Reach
first_reach = record { came = []; writing = None; wire = []; lines = [] }

-- a Context stands before the frames of a session exactly where another one wrote last, or none
abbrev pub is_writing : Option ℕ → ℕ → Bool
is_writing None place = false
is_writing (Some other) place = other == place

abbrev pub behind_context : Option ℕ → Came → List Frame → List Frame
behind_context writing c [] = []
behind_context writing c (f ∷ frames) = (if is_writing writing c.place then [] else context_frame c.session.session ∷ []) ++ f ∷ frames

abbrev pub writes_next : Option ℕ → Came → List Frame → Option ℕ
writes_next writing c [] = writing
writes_next writing c (f ∷ frames) = Some c.place

-- one more frame came, and this is the reply to it
abbrev pub replied : Reach → Came → Reply → Reach
replied r c reply = record {
  came = r.came ++ c ∷ [];
  writing = writes_next r.writing c (frames_in reply);
  wire = r.wire ++ behind_context r.writing c (frames_in reply);
  lines = r.lines ++ lines_in (c.place + 1) c.received.frame reply;
}

abbrev pub next_reach : Reach → Came → Reach
next_reach r c = replied r c (reply_in (stage_at r.came c) c)

abbrev pub reach_after : List Came → Reach
reach_after came = fold next_reach first_reach came

-- what the whole answer is
pub record MuxAnswer : Type 0 where
  pub wire : List ℕ
  pub out : List ℕ
  pub at : ℕ
  pub closing : Closing

-- The answer to an input over these sessions
pub record IsMuxAnswer (sessions : List Settings) (input : List ℕ) (answer : MuxAnswer) : Type 0 where
  pub frames : List Frame
  pub tail : List ℕ
  pub came : List Came
  pub is_input : IsInput (identifiers sessions) input frames tail answer.closing
  pub taken : AreTaken sessions [] (carried None frames) came
  pub wire : answer.wire ≡ spelled_all (reach_after came).wire
  pub out : answer.out ≡ bytes_of_lines (reach_after came).lines
  pub at : answer.at ≡ place_of frames
