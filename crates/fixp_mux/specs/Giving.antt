-- Giving a frame to the session that was named last, and what keeps it from going out (this project's profile).
use Rattle.std.specs.Prelude.{◌≡◌, ◌≢◌, ℕ, ◌+◌, ◌<◌, false, List, [], length, slice_get, Option, Some}
use Rattle.sofh_frame.specs.Framing.{Frame}
use Rattle.fixp_mux.specs.Context.{names, carries, says}
use Rattle.fixp_mux.specs.Parts.{part_of}
use Rattle.fixp_mux.specs.State.{IsOf, Session, session_room}

-- a Context names none of the sessions
pub record NamesNone (ids : List (List ℕ)) (f : Frame) : Type 0 where
  pub id : List ℕ
  pub is : says f ≡ names id
  pub unknown : IsOf ids id → ⊥

-- a session has no room for a frame that is its own
pub record IsFull (sessions : List Session) (last : Option (List ℕ)) (f : Frame) : Type 0 where
  pub place : ℕ
  pub session : Session
  pub stands : slice_get sessions place ≡ Some session
  pub named : last ≡ Some session.id
  pub kept : session.is_released ≡ false
  pub carries : says f ≡ carries
  pub full : session_room < length session.input + (6 + length f.message)

-- a session that was not released was given a frame
pub record GaveOne (sessions : List Session) (last : Option (List ℕ)) (given : List Frame) : Type 0 where
  pub place : ℕ
  pub session : Session
  pub stands : slice_get sessions place ≡ Some session
  pub kept : session.is_released ≡ false
  pub some : part_of last session.id given ≢ []
