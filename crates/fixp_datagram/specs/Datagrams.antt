-- A datagram: one Sequence frame, and behind it whole application frames (FIXP 1.1, Sequence; Simple Open Framing Header; that
-- a datagram begins with a Sequence and has at most 65,000 bytes is this project's profile).
use Rattle.std.specs.Prelude.{◌≡◌, ℕ, List, [], ◌++◌, map}
use Rattle.std.specs.List.{AllByRecursion}
use Rattle.sofh_frame.specs.Framing.{Frame, IsFrame, spelled}
use Rattle.sofh_frame.specs.Splits.{spelled_all}
use Rattle.fixp_msgs.specs.declared.frames.FrameKind.TheVariants.{App, Session}
use Rattle.fixp_msgs.specs.Header.{kind_of}
use Rattle.fixp_msgs.specs.Message.{sequence}
use Rattle.fixp_msgs.specs.Grammar.{Spells}
use Rattle.fixp_msgs.specs.Numbering.{payload_of}

-- what a datagram carries: the number of its first message, and the payloads of its messages in order
pub record Contents : Type 0 where
  pub first : ℕ
  pub payloads : List (List ℕ)

-- the most bytes of a datagram
abbrev pub most_bytes : ℕ
most_bytes = 65000

-- a whole frame with an application message
pub record IsApplicationFrame (f : Frame) : Type 0 where
  pub admissible : IsFrame f
  pub application : kind_of f.order f.message ≡ App

-- a whole frame with a Sequence that has this number
pub record IsSequenceFrame (f : Frame) (first : ℕ) : Type 0 where
  pub admissible : IsFrame f
  pub session : kind_of f.order f.message ≡ Session
  pub sequence : Spells f.message (sequence first)

-- bytes that begin with a whole Sequence frame, and what stands behind it
pub record BeginsWithSequence (bytes : List ℕ) (first : ℕ) (behind : List ℕ) : Type 0 where
  pub head : Frame
  pub announces : IsSequenceFrame head first
  pub joins : bytes ≡ spelled head ++ behind

-- bytes that begin with whole application frames of these payloads, and what stands behind them
pub record BeginsWithApplications (bytes : List ℕ) (payloads : List (List ℕ)) (behind : List ℕ) : Type 0 where
  pub frames : List Frame
  pub each : AllByRecursion IsApplicationFrame frames
  pub joins : bytes ≡ spelled_all frames ++ behind
  pub holds : map payload_of frames ≡ payloads

-- the bytes spell a datagram: a whole Sequence frame with its first number, then whole application frames with its payloads,
-- and nothing else
pub record SpellsDatagram (bytes : List ℕ) (d : Contents) : Type 0 where
  pub behind : List ℕ
  pub sequence : BeginsWithSequence bytes d.first behind
  pub applications : BeginsWithApplications behind d.payloads []
