-- Payloads of application messages (Simple Open Framing Header, "Encoding Type"; what a message is, this project's profile).
use Rattle.std.specs.Prelude.{◌≡◌, ℕ, List}
use Rattle.sofh_frame.specs.Framing.{Frame, IsFrame}
use Rattle.fixp_msgs.specs.declared.frames.FrameKind.TheVariants.{App}
use Rattle.fixp_msgs.specs.Header.{kind_of}
use Rattle.fixp_msgs.specs.Numbering.{payload_of}

-- the payload of an application message: of a frame with a message of 8 to 16,384 bytes that is an application message
pub record IsApplication (payload : List ℕ) : Type 0 where
  pub frame : Frame
  pub admissible : IsFrame frame
  pub application : kind_of frame.order frame.message ≡ App
  pub spelled : payload_of frame ≡ payload
