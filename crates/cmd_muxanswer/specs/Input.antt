-- An input of several sessions: its frames, up to the first that no session can be given, and why there is no further one (Simple Open
-- Framing Header; FIXP 1.1, "Context").
use Rattle.std.specs.Prelude.{◌≡◌, ◌≢◌, ℕ, ◌^◌, ◌-◌, min, List, [], ◌∷◌, ◌++◌, Option, Some, None}
use Rattle.std.specs.List.{AllByRecursion}
use Rattle.sofh_frame.specs.Framing.{Frame, IsFrame, First, frame, rest, bad_length, bad_encoding, first_of}
use Rattle.sofh_frame.specs.Splits.{spelled_all, place_behind}
use Rattle.fixp_mux.specs.Context.{Says, names, malformed, carries, says}
use Rattle.fixp_mux.specs.Parts.{named_by, named_behind, WellRouted}
use Rattle.fixp_mux.specs.State.{IsOf}
use Rattle.cmd_muxanswer.specs.declared.unrouted.Unrouted.{Unrouted}
use Rattle.cmd_muxanswer.specs.declared.unrouted.Unrouted.TheVariants.{NoContext, OtherSession, BadFrame}

-- a frame of the session with this identifier
pub record Carried : Type 0 where
  pub id : List ℕ
  pub frame : Frame

abbrev pub carried_by : Option (List ℕ) → Says → Frame → List Carried
carried_by before (names id) f = []
carried_by before malformed f = []
carried_by None carries f = []
carried_by (Some id) carries f = (record { id = id; frame = f }) ∷ []

-- the frames that are no Context, in the order in which they came, each with the session that was named last
abbrev pub carried : Option (List ℕ) → List Frame → List Carried
carried before [] = []
carried before (f ∷ frames) = carried_by before (says f) f ++ carried (named_by before (says f)) frames

-- a frame that no session can be given, where the last Context names this one: it is a Context of none of these sessions; it is a
-- Context that is not spelled; or no Context came before it
abbrev pub IsUnrouted : (ids : List (List ℕ)) → Option (List ℕ) → Says → Unrouted → Type 0
IsUnrouted ids before (names id) OtherSession = ¬ IsOf ids id
IsUnrouted ids before (names id) NoContext = ⊥
IsUnrouted ids before (names id) BadFrame = ⊥
IsUnrouted ids before malformed BadFrame = Unit {0}
IsUnrouted ids before malformed NoContext = ⊥
IsUnrouted ids before malformed OtherSession = ⊥
IsUnrouted ids None carries NoContext = Unit {0}
IsUnrouted ids None carries OtherSession = ⊥
IsUnrouted ids None carries BadFrame = ⊥
IsUnrouted ids (Some id) carries why = ⊥

-- the same of what stands at the front of some bytes, where bytes that no frame begins with are a bad frame
abbrev pub IsUnroutedAt : (ids : List (List ℕ)) → Option (List ℕ) → First → Unrouted → Type 0
IsUnroutedAt ids before (frame order message size) why = IsUnrouted ids before (says (record { order = order; message = message })) why
IsUnroutedAt ids before rest why = ⊥
IsUnroutedAt ids before (bad_length n) why = why ≡ BadFrame
IsUnroutedAt ids before (bad_encoding encoding) why = why ≡ BadFrame

-- why no further frame is given out: the input ends behind a frame, or inside one, or no session can be given what comes next
pub data Closing : Type 0 where
  whole : Closing
  cut : Closing
  unrouted : Unrouted → Closing

abbrev pub Closes : (ids : List (List ℕ)) → Option (List ℕ) → List ℕ → Closing → Type 0
Closes ids before tail whole = tail ≡ []
Closes ids before tail cut = (tail ≢ []) × (first_of tail ≡ rest)
Closes ids before tail (unrouted why) = IsUnroutedAt ids before (first_of tail) why

-- The input begins with these frames, each of which a session of these can be given, and this is why there is no further one
pub record IsInput (ids : List (List ℕ)) (input : List ℕ) (frames : List Frame) (tail : List ℕ) (closing : Closing) : Type 0 where
  pub joins : input ≡ spelled_all frames ++ tail
  pub each : AllByRecursion IsFrame frames
  pub well : WellRouted (IsOf ids) None frames
  pub closes : Closes ids (named_behind None frames) tail closing

-- the place behind these frames in bytes; one past the greatest number of 64 bits is given as that number
abbrev pub place_of : List Frame → ℕ
place_of frames = min (place_behind frames) (2 ^ 64 - 1)
