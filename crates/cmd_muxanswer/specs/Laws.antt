-- What the answer over several sessions is to each of them: its own answer, over its own frames, and nothing of another's.
use Rattle.std.specs.Prelude.{◌≡◌, ℕ, ◌+◌, List, [], ◌++◌, codes, length, slice_get, Some, None}
use Rattle.std.specs.List.{AllByRecursion}
use Rattle.sofh_frame.specs.Framing.{Frame}
use Rattle.sofh_frame.specs.Splits.{spelled_all}
use Rattle.fixp_replies.specs.declared.act.Ending.TheVariants.{Violation}
use Rattle.routes.specs.Identifiers.{EachOnce}
use Rattle.fixp_mux.specs.Parts.{part_of, Tight}
use Rattle.conn_lines.specs.Lines.{ending_words}
use Rattle.cmd_config.specs.declared.settings.Settings.{Settings}
use Rattle.cmd_base.specs.declared.status.Bad.TheVariants as bad
use Rattle.cmd_base.specs.declared.status.Status.{Status}
use Rattle.cmd_base.specs.declared.status.Status.TheVariants.{Message}
use Rattle.cmd_answer.specs.Answer.{Answer, IsAnswer, acceptor_of}
use Rattle.cmd_muxanswer.specs.Sessions.{identifiers}
use Rattle.cmd_muxanswer.specs.Lines.{texts_of}
use Rattle.cmd_muxanswer.specs.Answer.{Came, MuxAnswer, IsMuxAnswer, reach_after}

-- identifiers of 16 bytes, no two of them the same
pub record AreApart (sessions : List Settings) : Type 0 where
  pub sizes : AllByRecursion (λ (s : Settings). length s.session ≡ 16) sessions
  pub once : EachOnce (identifiers sessions)

-- `violation V` exactly where the session's own answer says that a rule was broken
abbrev pub violated : Status → List ℕ
violated (Message (bad.Session place violation)) = ending_words (Violation violation) ++ codes "\n"
violated _ = []

-- The part of WIRE and the lines of the session at a place are the wire and the lines of its own answer, over its part of the frames of the
-- input, and behind its lines stands the rule that it broke, if it did
pub record IsItsOwn (frames : List Frame) (came : List Came) (place : ℕ) (session : Settings) : Type 0 where
  pub own : Answer
  pub is : IsAnswer (acceptor_of session) (spelled_all (part_of None session.session frames)) own
  pub wire : spelled_all (part_of None session.session (reach_after came).wire) ≡ own.wire
  pub lines : texts_of (place + 1) (reach_after came).lines ≡ own.out ++ violated own.status

abbrev pub EachIsItsOwn : Type 0
EachIsItsOwn =
    (sessions : List Settings) (input : List ℕ) (answer : MuxAnswer) (x : IsMuxAnswer sessions input answer) (place : ℕ) (session : Settings)
    → AreApart sessions → slice_get sessions place ≡ Some session → IsItsOwn x.frames x.came place session

-- every frame of WIRE stands behind a Context of its session, and a Context stands exactly where another session wrote before
abbrev pub ContextsAreNeeded : Type 0
ContextsAreNeeded =
    (sessions : List Settings) (input : List ℕ) (answer : MuxAnswer) (x : IsMuxAnswer sessions input answer)
    → AreApart sessions → Tight None (reach_after x.came).wire

-- the answer to an input is one
abbrev pub OneMuxAnswer : Type 0
OneMuxAnswer =
    (sessions : List Settings) (input : List ℕ) (a b : MuxAnswer) → AreApart sessions
    → IsMuxAnswer sessions input a → IsMuxAnswer sessions input b → a ≡ b
