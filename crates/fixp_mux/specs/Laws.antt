-- The laws of several sessions on one transport: not one byte of one session reaches another.
use Rattle.std.specs.Prelude.{◌≡◌, ℕ, false, List, [], ◌∷◌, ◌++◌, Option, Some, None, Result, slice_get}
use Rattle.sofh_frame.specs.Framing.{Frame}
use Rattle.sofh_frame.specs.Splits.{spelled_all}
use Rattle.gw_links.specs.Links.{Carried, LinkTold}
use Rattle.fixp_mux.specs.Context.{says}
use Rattle.fixp_mux.specs.Parts.{named_by, named_behind, own, part_of}
use Rattle.fixp_mux.specs.Pumping.{DidPump}
use Rattle.fixp_mux.specs.State.{Session, State, new_mux}
use Rattle.fixp_mux.specs.declared.pump.MuxFault.{MuxFault}
use Rattle.fixp_mux.specs.declared.pump.Pumped.{Pumped}
use Rattle.fixp_mux.specs.Calls.{Call, Happens, pumped, Ran, given_in, begun_in, received_in, sent_in}

-- whether a frame belongs to a session is decided by the last Context before it, and by nothing else
abbrev pub PartByLastContext : Type 0
PartByLastContext =
    (before : Option (List ℕ)) (session : List ℕ) (frames : List Frame) (f : Frame) (behind : List Frame)
    → part_of before session (frames ++ f ∷ behind)
    ≡ part_of before session frames
    ++ (own (named_behind before frames) (says f) session f ++ part_of (named_by (named_behind before frames) (says f)) session behind)

-- a frame belongs to one session at most, which is the one named last
abbrev pub BelongsToOne : Type 0
BelongsToOne =
    (before : Option (List ℕ)) (f : Frame) (session : List ℕ)
    → own before (says f) session f ≡ f ∷ [] → before ≡ Some session

-- what a session received and is still to receive, and what it sent, against its parts of the frames given out and of those written
pub record IsApart (calls : List Call) (place : ℕ) (s : Session) : Type 0 where
  pub reads : s.is_released ≡ false → received_in place calls ++ s.input ≡ spelled_all (part_of None s.id (given_in calls))
  pub writes : sent_in place calls ≡ spelled_all (part_of None s.id (begun_in calls)) ++ s.output

-- Whatever calls were made, a session that was not released received the bytes of its own part of the frames given out, the last of
-- which may still be held; and its part of the frames written is what it sent, the last of which may still be held
abbrev pub SessionsApart : Type 0
SessionsApart =
    (ids : List (List ℕ)) (calls : List Call) (last : State) (place : ℕ) (s : Session)
    → Ran (new_mux ids) calls last → slice_get last.sessions place ≡ Some s → IsApart calls place s

-- one pump is such a call
abbrev pub APumpHappens : Type 0
APumpHappens =
    (told told' : Option LinkTold) (carried carried' : Option Carried) (old new : State) (result : Result Pumped MuxFault)
    → DidPump told told' carried carried' old new result
    → (given : List Frame) × ((begun : List Frame) × Happens old (pumped given begun) new)
