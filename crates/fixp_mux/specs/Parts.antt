-- The frames of several sessions on one transport, and each session's part of them (FIXP 1.1, "Context"; that every frame is to have one
-- before it is this project's profile).
use Rattle.std.specs.Prelude.{◌≡◌, ◌≢◌, ℕ, if◌then◌else◌, List, [], ◌∷◌, ◌++◌, Option, Some, None, IsSome, ⊤}
use Rattle.std.specs.Str.{bytes_eq}
use Rattle.sofh_frame.specs.Framing.{Frame}
use Rattle.fixp_mux.specs.Context.{Says, names, malformed, carries, says, context_frame}

-- the session named behind a frame, where `before` was named before it
abbrev pub named_by : Option (List ℕ) → Says → Option (List ℕ)
named_by before (names id) = Some id
named_by before malformed = before
named_by before carries = before

-- the session that the last Context of some frames names, or `before` where there is none among them
abbrev pub named_behind : Option (List ℕ) → List Frame → Option (List ℕ)
named_behind before [] = before
named_behind before (f ∷ frames) = named_behind (named_by before (says f)) frames

-- a frame belongs to a session where it is no Context and the session was named last
abbrev pub own : Option (List ℕ) → Says → List ℕ → Frame → List Frame
own before (names id) session f = []
own before malformed session f = []
own None carries session f = []
own (Some id) carries session f = if bytes_eq id session then f ∷ [] else []

-- a session's part of some frames: Contexts aside, those whose last Context before them names it
abbrev pub part_of : Option (List ℕ) → List ℕ → List Frame → List Frame
part_of before session [] = []
part_of before session (f ∷ frames) = own before (says f) session f ++ part_of (named_by before (says f)) session frames

-- every frame has a Context before it, and every Context is spelled and names one of these sessions
abbrev pub IsWellSaid : (List ℕ → Type 0) → Option (List ℕ) → Says → Type 0
IsWellSaid Known before (names id) = Known id
IsWellSaid Known before malformed = ⊥
IsWellSaid Known before carries = IsSome before

abbrev pub WellRouted : (List ℕ → Type 0) → Option (List ℕ) → List Frame → Type 0
WellRouted Known before [] = ⊤
WellRouted Known before (f ∷ frames) = IsWellSaid Known before (says f) × WellRouted Known (named_by before (says f)) frames

-- a Context stands exactly before a frame whose session the last Context before it does not name
abbrev pub BeginsWithCarried : List Frame → Type 0
BeginsWithCarried [] = ⊥
BeginsWithCarried (f ∷ frames) = says f ≡ carries

abbrev pub IsTightSaid : Option (List ℕ) → Says → List Frame → Type 0
IsTightSaid before (names id) behind = (before ≢ Some id) × BeginsWithCarried behind
IsTightSaid before malformed behind = ⊥
IsTightSaid before carries behind = IsSome before

abbrev pub Tight : Option (List ℕ) → List Frame → Type 0
Tight before [] = ⊤
Tight before (f ∷ frames) = IsTightSaid before (says f) frames × Tight (named_by before (says f)) frames

-- a frame of a session as it is written: behind a Context, where the last one does not name that session
abbrev pub with_context : Option (List ℕ) → List ℕ → Frame → List Frame
with_context None session f = context_frame session ∷ f ∷ []
with_context (Some id) session f = if bytes_eq id session then f ∷ [] else context_frame session ∷ f ∷ []
