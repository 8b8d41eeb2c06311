-- What a datagram that is being read still holds, and what reading one answers.
use Rattle.std.specs.Prelude.{◌≡◌, ℕ, ◌+◌, List, [], ◌∷◌, ◌++◌, length, map, drop}
use Rattle.sofh_frame.specs.Framing.{Frame, spelled}
use Rattle.sofh_frame.specs.Splits.{frames_of}
use Rattle.fixp_msgs.specs.Numbering.{payload_of}
use Rattle.fixp_datagram.specs.Datagrams.{IsApplicationFrame, BeginsWithApplications}

-- the payloads of the frames in bytes
abbrev pub payloads_in : List ℕ → List (List ℕ)
payloads_in bytes = map payload_of (frames_of bytes)

-- the bytes are whole application frames
abbrev pub AreApplications : List ℕ → Type 0
AreApplications bytes = BeginsWithApplications bytes (payloads_in bytes) []

-- an application frame of this size stands at the front
pub record BeginsWithApplication (bytes : List ℕ) (size : ℕ) : Type 0 where
  pub frame : Frame
  pub is_application : IsApplicationFrame frame
  pub joins : bytes ≡ spelled frame ++ drop size bytes
  pub counts : size ≡ 6 + length frame.message

-- the bytes of a Sequence's frame up to its number, as it is written
abbrev pub sequence_head : List ℕ
sequence_head = 0x00 ∷ 0x00 ∷ 0x00 ∷ 0x16 ∷ 0xEB ∷ 0x50 ∷ 0x08 ∷ 0x00 ∷ 0x07 ∷ 0x00 ∷ 0x11 ∷ 0xF0 ∷ 0x00 ∷ 0x00 ∷ []
