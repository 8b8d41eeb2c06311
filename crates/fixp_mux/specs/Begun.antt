-- How frames of the sessions are moved behind what is unsent. No clause of a public call speaks of it.
use Rattle.std.specs.Prelude.{◌≡◌, ℕ, ◌+◌, ◌<◌, ◌≤◌, if◌then◌else◌, Bool, true, false, List, [], ◌∷◌, ◌++◌, length, Option, Some, None, slice_get}
use Rattle.std.specs.Str.{bytes_eq}
use Rattle.sofh_frame.specs.Framing.{Frame}
use Rattle.sofh_frame.specs.Splits.{spelled_all}
use Rattle.fixp_mux.specs.Context.{context_frame}
use Rattle.fixp_mux.specs.Parts.{named_behind, Tight, WellRouted}
use Rattle.fixp_mux.specs.Pumping.{IsReady}
use Rattle.fixp_mux.specs.Routing.{Table}
use Rattle.fixp_mux.specs.State.{AllPairs, Fed, IsOf, Session, ids_of}

-- the Context that a frame of a session is to stand behind, where the last one does not name that session
abbrev pub contexts_before : Option (List ℕ) → List ℕ → List Frame
contexts_before None session = context_frame session ∷ []
contexts_before (Some id) session = if bytes_eq id session then [] else context_frame session ∷ []

-- that Context was written behind what is unsent, if there is one
pub record IsAnnounced (place : ℕ) (old : Table) (unsent : List ℕ) (new : Table) (unsent' : List ℕ) : Type 0 where
  pub session : Session
  pub stands : slice_get old.sessions place ≡ Some session
  pub size : length session.id ≡ 16
  pub is : new ≡ record old { writing = Some session.id }
  pub wrote : unsent' ≡ unsent ++ spelled_all (contexts_before old.writing session.id)

-- how many bytes the sessions sent that are not written yet
abbrev pub outputs : List Session → ℕ
outputs [] = 0
outputs (s ∷ sessions) = length s.output + outputs sessions

-- frames were moved behind what is unsent
pub record Began (old : Table) (unsent : List ℕ) (new : Table) (unsent' : List ℕ) : Type 0 where
  pub begun : List Frame
  pub sessions : AllPairs (Fed old.named old.writing [] begun) old.sessions new.sessions
  pub named : new.named ≡ old.named
  pub writing : new.writing ≡ named_behind old.writing begun
  pub known : WellRouted (IsOf (ids_of old.sessions)) old.writing begun
  pub tight : Tight old.writing begun
  pub wrote : unsent' ≡ unsent ++ spelled_all begun
  pub less : outputs new.sessions < outputs old.sessions

-- the same, or nothing was
abbrev pub BeganSome : Table → List ℕ → Bool → Table → List ℕ → Type 0
BeganSome old unsent true new unsent' = Began old unsent new unsent'
BeganSome old unsent false new unsent' = (new ≡ old) × (unsent' ≡ unsent)

-- the session at a place has no frame to write
abbrev pub HasNone : Table → ℕ → Type 0
HasNone m place = (s : Session) → slice_get m.sessions place ≡ Some s → IsReady s → ⊥

-- a frame of the session at a place was moved, or it has none, or there is no room
pub record IsBegun (place : ℕ) (old : Table) (unsent : List ℕ) (some : Bool) (new : Table) (unsent' : List ℕ) : Type 0 where
  pub moved : BeganSome old unsent some new unsent'
  pub none : some ≡ false → unsent ≡ [] → HasNone old place

-- the same of the sessions between two places
pub record IsBegunBetween (from to : ℕ) (old : Table) (unsent : List ℕ) (some : Bool) (new : Table) (unsent' : List ℕ) : Type 0 where
  pub moved : BeganSome old unsent some new unsent'
  pub none : some ≡ false → unsent ≡ [] → (place : ℕ) → from ≤ place → place < to → HasNone old place
