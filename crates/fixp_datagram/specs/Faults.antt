-- Why bytes are no datagram.
use Rattle.std.specs.Prelude.{◌≡◌, ◌≢◌, ℕ, ◌+◌, ◌<◌, ◌≤◌, List, [], ◌++◌, length}
use Rattle.sofh_frame.specs.Framing.{Frame, spelled}
use Rattle.fixp_datagram.specs.declared.datagram.DgFault.{DgFault}
use Rattle.fixp_datagram.specs.declared.datagram.DgFault.TheVariants.{NoSequence, BadFrame, TooLong}
use Rattle.fixp_datagram.specs.Datagrams.{most_bytes, IsApplicationFrame, BeginsWithSequence, BeginsWithApplications}

-- behind the Sequence frame stand whole application frames up to this place, counted in bytes from the datagram's first, and
-- there something that begins with none
pub record IsBadAt (bytes : List ℕ) (at : ℕ) : Type 0 where
  pub first : ℕ
  pub behind : List ℕ
  pub payloads : List (List ℕ)
  pub tail : List ℕ
  pub sequence : BeginsWithSequence bytes first behind
  pub applications : BeginsWithApplications behind payloads tail
  pub place : at + length tail ≡ length bytes
  pub some : tail ≢ []
  pub none : (f : Frame) (more : List ℕ) → IsApplicationFrame f → tail ≡ spelled f ++ more → ⊥

-- too long, which is looked for first; or no whole Sequence frame at the front; or something else than whole application
-- frames behind it
abbrev pub HasCause : List ℕ → DgFault → Type 0
HasCause bytes TooLong = most_bytes < length bytes
HasCause bytes NoSequence = (length bytes ≤ most_bytes) × ((first : ℕ) (behind : List ℕ) → BeginsWithSequence bytes first behind → ⊥)
HasCause bytes (BadFrame at) = (length bytes ≤ most_bytes) × IsBadAt bytes at
