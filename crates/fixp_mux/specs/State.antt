-- Sessions over one transport, between two calls (this project's profile).
use Rattle.std.specs.Prelude.{◌≡◌, ℕ, ◌+◌, ◌-◌, ◌^◌, min, if◌then◌else◌, Bool, false, List, [], ◌∷◌, ◌++◌, map, length, Option, None, ⊤}
use Rattle.std.specs.List.{IsAmong}
use Rattle.sofh_frame.specs.Framing.{Frame}
use Rattle.sofh_frame.specs.Splits.{spelled_all}
use Rattle.fixp_mux.specs.Parts.{named_behind, part_of, WellRouted, Tight}

-- One session: its identifier; the bytes that it has not received yet, and those that it sent and that are not written yet; and whether it
-- was released
pub record Session : Type 0 where
  pub id : List ℕ
  pub input : List ℕ
  pub output : List ℕ
  pub is_released : Bool

-- The sessions; the one that the last Context read names, and the one that the last Context written names; the bytes of the transport that
-- are not given out yet, and those that it has not taken yet; how many bytes were given out; whether the link has given its end; and
-- whether the transport has ended
pub record State : Type 0 where
  pub sessions : List Session
  pub named : Option (List ℕ)
  pub writing : Option (List ℕ)
  pub unread : List ℕ
  pub unsent : List ℕ
  pub at : ℕ
  pub is_over : Bool
  pub has_ended : Bool

abbrev pub ids_of : List Session → List (List ℕ)
ids_of sessions = map (λ (s : Session). s.id) sessions

-- the room in bytes of a session's input and of its output: four of the largest frames
abbrev pub session_room : ℕ
session_room = 65560

abbrev pub new_session : List ℕ → Session
new_session id = record { id = id; input = []; output = []; is_released = false }

-- nothing came and nothing was sent yet
abbrev pub new_mux : List (List ℕ) → State
new_mux ids = record {
  sessions = map new_session ids;
  named = None;
  writing = None;
  unread = [];
  unsent = [];
  at = 0;
  is_over = false;
  has_ended = false;
}

-- a relation holds of each two sessions at the same place, and there are as many
abbrev pub AllPairs : (Session → Session → Type 0) → List Session → List Session → Type 0
AllPairs R [] [] = ⊤
AllPairs R [] (s ∷ new) = ⊥
AllPairs R (s ∷ old) [] = ⊥
AllPairs R (s ∷ old) (t ∷ new) = R s t × AllPairs R old new

-- Frames were given out and others were begun to be written, where the last Contexts before them named these sessions: the session's
-- part of the first stands behind its input, unless it was released, and its part of the others was taken off the front of its output
pub record Fed (named writing : Option (List ℕ)) (given begun : List Frame) (old new : Session) : Type 0 where
  pub id : new.id ≡ old.id
  pub released : new.is_released ≡ old.is_released
  pub input : new.input ≡ old.input ++ (if old.is_released then [] else spelled_all (part_of named old.id given))
  pub output : old.output ≡ spelled_all (part_of writing old.id begun) ++ new.output

-- a count of bytes that stops at the greatest number of 64 bits
abbrev pub counted : ℕ → ℕ → ℕ
counted at count = min (at + count) (2 ^ 64 - 1)

-- one of these sessions
abbrev pub IsOf : List (List ℕ) → List ℕ → Type 0
IsOf ids id = IsAmong ids id

-- Frames were given out to their sessions, others were begun to be written, and the transport gave and took these bytes
pub record Pumps (old new : State) (given begun : List Frame) (came sent : List ℕ) : Type 0 where
  pub sessions : AllPairs (Fed old.named old.writing given begun) old.sessions new.sessions
  pub named : new.named ≡ named_behind old.named given
  pub writing : new.writing ≡ named_behind old.writing begun
  pub reads : spelled_all given ++ new.unread ≡ old.unread ++ came
  pub writes : sent ++ new.unsent ≡ old.unsent ++ spelled_all begun
  pub at : new.at ≡ counted old.at (length (spelled_all given))
  pub well : WellRouted (IsOf (ids_of old.sessions)) old.named given
  pub known : WellRouted (IsOf (ids_of old.sessions)) old.writing begun
  pub tight : Tight old.writing begun
