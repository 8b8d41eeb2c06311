-- What one pump of a router of frames does and answers (this project's profile).
use Rattle.std.specs.Prelude.{◌≡◌, ◌⊎◌, ℕ, ◌<◌, Bool, true, false, List, [], ◌++◌, length, take, slice_get, Option, Some, None, IfSome, Result, Ok, Err}
use Rattle.sofh_frame.specs.Framing.{Frame, First, frame, rest, bad_length, bad_encoding, first_of}
use Rattle.gw_links.specs.Links.{Carried, LinkTold, Moved}
use Rattle.gw_outside.specs.Faults.{HasRisen}
use Rattle.fixp_mux.specs.Context.{says, carries, malformed}
use Rattle.fixp_mux.specs.Giving.{GaveOne, IsFull, NamesNone}
use Rattle.fixp_mux.specs.State.{Session, State, Pumps, ids_of}
use Rattle.fixp_mux.specs.declared.pump.Pumped.{Pumped}
use Rattle.fixp_mux.specs.declared.pump.Pumped.TheVariants.{Went, Quiet, End}
use Rattle.fixp_mux.specs.declared.pump.MuxFault.{MuxFault}
use Rattle.fixp_mux.specs.declared.pump.MuxFault.TheVariants.{NoContext, OtherSession, BadFrame, LinkFault}

-- bytes begin with a whole frame of which this holds
abbrev pub Begins : First → (Frame → Type 0) → Type 0
Begins (frame order message size) P = P (record { order = order; message = message })
Begins rest P = ⊥
Begins (bad_length n) P = ⊥
Begins (bad_encoding encoding) P = ⊥

-- bytes begin with what the framing refuses, or with a Context that is not spelled
abbrev pub IsRefused : First → Type 0
IsRefused (frame order message size) = says (record { order = order; message = message }) ≡ malformed
IsRefused rest = ⊥
IsRefused (bad_length n) = Unit {0}
IsRefused (bad_encoding encoding) = Unit {0}

-- Why the bytes that are not given out cannot be routed: they begin with a frame that has no Context before it; with a Context of no session
-- of these; or with what the framing refuses, or a Context that is not spelled. The place is in bytes from the transport's first
abbrev pub HasTrouble : State → MuxFault → Type 0
HasTrouble m (NoContext at) = (at ≡ m.at) × ((m.named ≡ None) × Begins (first_of m.unread) (λ f. says f ≡ carries))
HasTrouble m (OtherSession at) = (at ≡ m.at) × Begins (first_of m.unread) (NamesNone (ids_of m.sessions))
HasTrouble m (BadFrame at) = (at ≡ m.at) × IsRefused (first_of m.unread)
HasTrouble m LinkFault = ⊥

-- the bytes that are not given out begin with a frame that its session has no room for
abbrev pub IsBlocked : State → Type 0
IsBlocked m = Begins (first_of m.unread) (IsFull m.sessions m.named)

-- no frame is left to give out but one that its session has no room for
abbrev pub GaveAll : State → Type 0
GaveAll m = (first_of m.unread ≡ rest) ⊎ IsBlocked m

-- a session's output begins with a whole frame that is no Context: what is no frame, or a Context, stays there
abbrev pub IsReady : Session → Type 0
IsReady s = Begins (first_of s.output) (λ f. says f ≡ carries)

-- nothing is left to write
pub record WroteAll (m : State) : Type 0 where
  pub unsent : m.unsent ≡ []
  pub sessions : (place : ℕ) (s : Session) → slice_get m.sessions place ≡ Some s → IsReady s → ⊥

-- something happened: bytes came, bytes were taken, or a session was given a frame
abbrev pub HasGone : State → List Frame → (came sent : List ℕ) → Type 0
HasGone old given came sent = (0 < length came) ⊎ ((0 < length sent) ⊎ GaveOne old.sessions old.named given)

-- the link has given its end, no whole frame is left to give out or to write, and nothing happened
pub record IsAtEnd (old new : State) (given : List Frame) (came sent : List ℕ) : Type 0 where
  pub over : new.is_over ≡ true
  pub gave : first_of new.unread ≡ rest
  pub wrote : WroteAll new
  pub still : HasGone old given came sent → ⊥

-- of a link that tells its bytes: nothing waits and more may come, it takes nothing, nothing waits and no byte will come
abbrev pub IsLinkQuiet : Option LinkTold → Type 0
IsLinkQuiet told = IfSome told (λ t. (t.waits ≡ []) × (t.over ≡ false))

abbrev pub IsLinkFull : Option LinkTold → Type 0
IsLinkFull told = IfSome told (λ t. t.room ≡ 0)

abbrev pub IsLinkOver : Option LinkTold → Type 0
IsLinkOver told = IfSome told (λ t. (t.waits ≡ []) × (t.over ≡ true))

-- what is left behind an answer that is no end and no fault: frames that a session or the link has no room for; and where no byte came, the
-- link has none now, it has given its end, or a session has no room for the next frame
pub record IsDone (told : Option LinkTold) (new : State) (came : List ℕ) : Type 0 where
  pub gave : GaveAll new
  pub wrote : WroteAll new ⊎ IsLinkFull told
  pub read : came ≡ [] → IsLinkQuiet told ⊎ ((new.is_over ≡ true) ⊎ IsBlocked new)

-- why a pump failed: the link did, or what is not given out cannot be routed
abbrev pub IsFault : State → MuxFault → Type 0
IsFault m LinkFault = Unit {0}
IsFault m (NoContext at) = HasTrouble m (NoContext at)
IsFault m (OtherSession at) = HasTrouble m (OtherSession at)
IsFault m (BadFrame at) = HasTrouble m (BadFrame at)

-- the answer, by what was done
abbrev pub IsAnswered : Option LinkTold → State → State → List Frame → (came sent : List ℕ) → Result Pumped MuxFault → Type 0
IsAnswered told old new given came sent (Ok Went) = HasGone old given came sent × IsDone told new came
IsAnswered told old new given came sent (Ok Quiet) =
    (HasGone old given came sent → ⊥) × ((IsAtEnd old new given came sent → ⊥) × ((IsLinkQuiet told ⊎ (IsLinkFull told ⊎ IsBlocked new)) × IsDone told new came))
IsAnswered told old new given came sent (Ok End) = IsAtEnd old new given came sent
IsAnswered told old new given came sent (Err fault) = IsFault new fault

-- the transport has ended behind an end and a fault
abbrev pub ends : Result Pumped MuxFault → Bool
ends (Ok Went) = false
ends (Ok Quiet) = false
ends (Ok End) = true
ends (Err fault) = true

-- the link's end stays known, and becomes known only where the link gave it
pub record IsOver (told : Option LinkTold) (old new : State) : Type 0 where
  pub stays : old.is_over ≡ true → new.is_over ≡ true
  pub only : new.is_over ≡ true → (old.is_over ≡ true) ⊎ IsLinkOver told

-- One pump: frames were given out and others begun to be written, the link gave and took these bytes, and of what is not yet taken it took so
-- many more where a send failed. The transport has ended exactly behind an end and a fault
pub record DidPump (told told' : Option LinkTold) (carried carried' : Option Carried) (old new : State) (result : Result Pumped MuxFault) : Type 0 where
  pub given : List Frame
  pub begun : List Frame
  pub came : List ℕ
  pub sent : List ℕ
  pub failing : ℕ
  pub pumps : Pumps old new given begun came sent
  pub moved : Moved told told' carried carried' came (sent ++ take failing new.unsent)
  pub only_failing : 0 < failing → result ≡ Err LinkFault
  pub over : IsOver told' old new
  pub ended : new.has_ended ≡ ends result
  pub answered : IsAnswered told' old new given came sent result

-- a link's count of failed calls rose where the link failed, and stayed else
abbrev pub HasFailed : Result Pumped MuxFault → (old new : ℕ) → Type 0
HasFailed (Err LinkFault) old new = HasRisen old new
HasFailed (Err (NoContext at)) old new = new ≡ old
HasFailed (Err (OtherSession at)) old new = new ≡ old
HasFailed (Err (BadFrame at)) old new = new ≡ old
HasFailed (Ok pumped) old new = new ≡ old
