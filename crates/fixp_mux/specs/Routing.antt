-- How a router of frames keeps its sessions, and what it makes of one frame. No clause of a public call speaks of it but by what it is between
-- two calls (`state_of`).
use Rattle.std.specs.Prelude.{◌≡◌, ℕ, ◌<◌, Bool, true, false, List, [], ◌∷◌, length, Option, Some, None, IfSome, slice_get}
use Rattle.std.specs.Option.{option_map}
use Rattle.sofh_frame.specs.Framing.{Frame}
use Rattle.routes.specs.Identifiers.{EachOnce}
use Rattle.fixp_mux.specs.Context.{says, malformed, carries}
use Rattle.fixp_mux.specs.Parts.{IsWellSaid, named_by}
use Rattle.fixp_mux.specs.State.{AllPairs, Fed, IsOf, Session, State, ids_of}
use Rattle.fixp_mux.specs.Giving.{GaveOne, IsFull, NamesNone}
use Rattle.fixp_mux.specs.declared.routed.Routed.{Routed}
use Rattle.fixp_mux.specs.declared.routed.Routed.TheVariants.{Gave, Passed, Full, NoContext, OtherSession, Malformed}

-- the sessions, the one that the last Context read names, and the one that the last Context written names
pub record Table : Type 0 where
  pub sessions : List Session
  pub named : Option (List ℕ)
  pub writing : Option (List ℕ)

-- those of a router
abbrev pub table_in : State → Table
table_in m = record { sessions = m.sessions; named = m.named; writing = m.writing }

-- the identifier of the session at a place, if one was named
abbrev pub id_at : List Session → Option ℕ → Option (List ℕ)
id_at sessions None = None
id_at sessions (Some place) = option_map (λ (s : Session). s.id) (slice_get sessions place)

abbrev pub table_of : List Session → (named writing : Option ℕ) → Table
table_of sessions named writing = record { sessions = sessions; named = id_at sessions named; writing = id_at sessions writing }

-- the table of identifiers has the sessions' own, each once, and those that were named are among them
pub record IsTable (ids : List (List ℕ)) (sessions : List Session) (read written : Option ℕ) : Type 0 where
  pub are : ids ≡ ids_of sessions
  pub once : EachOnce ids
  pub named : IfSome read (λ place. place < length sessions)
  pub writing : IfSome written (λ place. place < length sessions)

-- a Context names a session, if it is one of these
abbrev pub IsNamed : Table → List ℕ → Bool → Table → Type 0
IsNamed old id true new = IsOf (ids_of old.sessions) id × (new ≡ record old { named = Some id })
IsNamed old id false new = (IsOf (ids_of old.sessions) id → ⊥) × (new ≡ old)

-- a frame went out: to the session that was named, if it is none of a Context
pub record Gives (old new : Table) (f : Frame) : Type 0 where
  pub sessions : AllPairs (Fed old.named old.writing (f ∷ []) []) old.sessions new.sessions
  pub named : new.named ≡ named_by old.named (says f)
  pub writing : new.writing ≡ old.writing
  pub well : IsWellSaid (IsOf (ids_of old.sessions)) old.named (says f)

-- what became of a frame: its session has it; it was a Context, or its session was released; or it stays, and nothing changes
abbrev pub IsRouted : Table → Frame → Routed → Table → Type 0
IsRouted old f Gave new = Gives old new f × GaveOne old.sessions old.named (f ∷ [])
IsRouted old f Passed new = Gives old new f × (GaveOne old.sessions old.named (f ∷ []) → ⊥)
IsRouted old f Full new = (new ≡ old) × IsFull old.sessions old.named f
IsRouted old f NoContext new = (new ≡ old) × ((old.named ≡ None) × (says f ≡ carries))
IsRouted old f OtherSession new = (new ≡ old) × NamesNone (ids_of old.sessions) f
IsRouted old f Malformed new = (new ≡ old) × (says f ≡ malformed)
