-- The steps of one pump. No clause of a public call speaks of it but by what a router is between two calls (`state_of`).
use Rattle.std.specs.Prelude.{◌≡◌, ◌≢◌, ◌⊎◌, ℕ, ◌<◌, ◌≤◌, ◌^◌, Bool, true, false, List, [], ◌++◌, length, take, drop, Option, Result, Ok, Err}
use Rattle.sofh_frame.specs.Framing.{Frame, rest, first_of}
use Rattle.gw_links.specs.Links.{Carried, LinkTold, Moved, TookFront}
use Rattle.fixp_mux.specs.Begun.{IsBegunBetween}
use Rattle.fixp_mux.specs.Giving.{GaveOne}
use Rattle.fixp_mux.specs.Pumping.{HasFailed, HasTrouble, IsBlocked, IsFault, IsLinkFull, IsOver, IsLinkQuiet, WroteAll}
use Rattle.fixp_mux.specs.Routing.{table_in}
use Rattle.fixp_mux.specs.State.{State, Pumps, counted}
use Rattle.fixp_mux.specs.declared.pump.MuxFault.{MuxFault}
use Rattle.fixp_mux.specs.declared.pump.Pumped.{Pumped}
use Rattle.fixp_mux.specs.declared.pump.Pumped.TheVariants.{Went, Quiet, End}
use Rattle.fixp_mux.specs.declared.pump.MuxFault.TheVariants.{LinkFault}
use Rattle.fixp_mux.specs.declared.reading.First.{First}
use Rattle.fixp_mux.specs.declared.reading.First.TheVariants.{Gave, Passed, Stays}
use Rattle.fixp_mux.specs.declared.reading.Given.{Given}
use Rattle.fixp_mux.specs.declared.receiving.Read.{Read}
use Rattle.fixp_mux.specs.declared.reading.Stop.{Stop}
use Rattle.fixp_mux.specs.declared.reading.Stop.TheVariants.{Waits, Full}
use Rattle.fixp_mux.specs.declared.router.Router.{Router}
use Rattle.fixp_mux.specs.declared.writing.Wrote.{Wrote}

-- what a router is between two calls, by its parts
abbrev pub state_of : Router → Bool → State
state_of r ended = record {
  sessions = r.sessions.sessions;
  named = r.sessions.named;
  writing = r.sessions.writing;
  unread = r.framer.held;
  unsent = r.unsent;
  at = r.at;
  is_over = r.is_over;
  has_ended = ended;
}

-- what it is while the transport goes on
abbrev pub during : Router → State
during r = state_of r false

-- so many bytes at the front were given out
abbrev pub IsPast : ℕ → State → State → Type 0
IsPast size old new = new ≡ record old { unread = drop size old.unread; at = counted old.at size }

-- frames were given out, and a session was given one or none was
pub record GivesOut (old new : State) (some : Bool) : Type 0 where
  pub given : List Frame
  pub pumps : Pumps old new given [] [] []
  pub over : new.is_over ≡ old.is_over
  pub gave : some ≡ true → GaveOne old.sessions old.named given
  pub none : some ≡ false → GaveOne old.sessions old.named given → ⊥

abbrev pub HasStopped : Stop → State → Type 0
HasStopped Waits m = first_of m.unread ≡ rest
HasStopped Full m = IsBlocked m

abbrev pub IsFirstGiven : State → Result First MuxFault → State → Type 0
IsFirstGiven old (Ok Gave) new = GivesOut old new true
IsFirstGiven old (Ok Passed) new = GivesOut old new false
IsFirstGiven old (Ok (Stays stop)) new = (new ≡ old) × HasStopped stop old
IsFirstGiven old (Err fault) new = (new ≡ old) × HasTrouble old fault

-- the frame at the front went
abbrev pub IsShorter : Result First MuxFault → (old new : ℕ) → Type 0
IsShorter (Ok Gave) old new = new < old
IsShorter (Ok Passed) old new = new < old
IsShorter (Ok (Stays stop)) old new = Unit {0}
IsShorter (Err fault) old new = Unit {0}

-- frames were given out, and the next one cannot be
pub record GaveOut (old new : State) (fault : MuxFault) : Type 0 where
  pub some : Bool
  pub gives : GivesOut old new some
  pub trouble : HasTrouble new fault

abbrev pub IsGivenOut : State → Result Given MuxFault → State → Type 0
IsGivenOut old (Ok given) new = GivesOut old new given.gave_one × HasStopped given.stop new
IsGivenOut old (Err fault) new = GaveOut old new fault

-- bytes came, or none did for one of these reasons
pub record TookIn (told told' : Option LinkTold) (carried carried' : Option Carried) (old new : State) (some : Bool) : Type 0 where
  pub came : List ℕ
  pub moved : Moved told told' carried carried' came []
  pub is : new ≡ record old { unread = old.unread ++ came; is_over = new.is_over }
  pub some_came : some ≡ true → 0 < length came
  pub none_came : some ≡ false → came ≡ []
  pub over : IsOver told' old new
  pub why : some ≡ false → IsLinkQuiet told' ⊎ ((new.is_over ≡ true) ⊎ (32780 ≤ length old.unread))

abbrev pub IsTakenIn : (told told' : Option LinkTold) (carried carried' : Option Carried) → State → Result Bool MuxFault → State → Type 0
IsTakenIn told told' carried carried' old (Ok some) new = TookIn told told' carried carried' old new some
IsTakenIn told told' carried carried' old (Err fault) new = (new ≡ old) × ((fault ≡ LinkFault) × Moved told told' carried carried' [] [])

-- frames were given out, and bytes came
pub record ReadIn (told told' : Option LinkTold) (carried carried' : Option Carried) (old new : State) (some : Bool) : Type 0 where
  pub given : List Frame
  pub came : List ℕ
  pub pumps : Pumps old new given [] came []
  pub moved : Moved told told' carried carried' came []
  pub over : IsOver told' old new
  pub gave : some ≡ true → GaveOne old.sessions old.named given
  pub none : some ≡ false → GaveOne old.sessions old.named given → ⊥

-- and why no more were, and no more bytes did
pub record IsReadIn (told told' : Option LinkTold) (carried carried' : Option Carried) (old new : State) (read : Read) : Type 0 where
  pub did : ReadIn told told' carried carried' old new read.gave_one
  pub some_came : read.came ≡ true → 0 < length did.came
  pub none_came : read.came ≡ false → did.came ≡ []
  pub stopped : HasStopped read.stop new
  pub why : read.came ≡ false → IsLinkQuiet told' ⊎ ((new.is_over ≡ true) ⊎ IsBlocked new)

pub record FailedToRead (told told' : Option LinkTold) (carried carried' : Option Carried) (old new : State) (fault : MuxFault) : Type 0 where
  pub some : Bool
  pub did : ReadIn told told' carried carried' old new some
  pub is : IsFault new fault

abbrev pub IsRead : (told told' : Option LinkTold) (carried carried' : Option Carried) → State → Result Read MuxFault → State → Type 0
IsRead told told' carried carried' old (Ok read) new = IsReadIn told told' carried carried' old new read
IsRead told told' carried carried' old (Err fault) new = FailedToRead told told' carried carried' old new fault

-- a link's count of failed calls rose where the link failed, and stayed else
abbrev pub HasFailedSo : {T : Type 0} → Result T MuxFault → (old new : ℕ) → Type 0
HasFailedSo (Ok value) old new = new ≡ old
HasFailedSo (Err fault) old new = HasFailed (Err fault) old new

-- the link took so many of the first unsent bytes
pub record SentOn (told told' : Option LinkTold) (carried carried' : Option Carried) (old new : State) (taken : ℕ) : Type 0 where
  pub within : taken ≤ length old.unsent
  pub moved : Moved told told' carried carried' [] (take taken old.unsent)
  pub is : new ≡ record old { unsent = drop taken old.unsent }
  pub full : taken < length old.unsent → IsLinkFull told'

-- or failed, and nothing is known to be taken
pub record FailedToSend (told told' : Option LinkTold) (carried carried' : Option Carried) (old new : State) (fault : MuxFault) : Type 0 where
  pub is : fault ≡ LinkFault
  pub same : new ≡ old
  pub front : TookFront told told' carried carried' old.unsent

abbrev pub IsSentOn : (told told' : Option LinkTold) (carried carried' : Option Carried) → State → Result ℕ MuxFault → State → Type 0
IsSentOn told told' carried carried' old (Ok taken) new = SentOn told told' carried carried' old new taken
IsSentOn told told' carried carried' old (Err fault) new = FailedToSend told told' carried carried' old new fault

-- frames were begun to be written, or no session has one
pub record BegunOn (old : State) (some : Bool) (new : State) : Type 0 where
  pub begun : IsBegunBetween 0 (length old.sessions) (table_in old) old.unsent some (table_in new) new.unsent
  pub is : new ≡ record old { sessions = new.sessions; named = new.named; writing = new.writing; unsent = new.unsent }

-- frames were begun to be written, and the link took bytes, of what is unsent so many more where it failed
pub record WroteOut (told told' : Option LinkTold) (carried carried' : Option Carried) (old new : State) (failing : ℕ) : Type 0 where
  pub begun : List Frame
  pub sent : List ℕ
  pub pumps : Pumps old new [] begun [] sent
  pub over : new.is_over ≡ old.is_over
  pub moved : Moved told told' carried carried' [] (sent ++ take failing new.unsent)

-- the same, and it took so many, or more than are counted
pub record WroteSome (told told' : Option LinkTold) (carried carried' : Option Carried) (old new : State) (count : ℕ) : Type 0 where
  pub out : WroteOut told told' carried carried' old new 0
  pub some : 0 < count → 0 < length out.sent
  pub none : count ≡ 0 → out.sent ≡ []
  pub within : new.at < 2 ^ 64

pub record IsWritten (told told' : Option LinkTold) (carried carried' : Option Carried) (old new : State) (wrote : Wrote) : Type 0 where
  pub did : WroteSome told told' carried carried' old new wrote.sent
  pub all : wrote.is_all ≡ true → WroteAll new
  pub left : wrote.is_all ≡ false → new.unsent ≢ []
  pub full : wrote.is_all ≡ false → IsLinkFull told'

pub record FailedToWrite (told told' : Option LinkTold) (carried carried' : Option Carried) (old new : State) (fault : MuxFault) : Type 0 where
  pub is : fault ≡ LinkFault
  pub failing : ℕ
  pub out : WroteOut told told' carried carried' old new failing

abbrev pub IsWrittenOut : (told told' : Option LinkTold) (carried carried' : Option Carried) → State → Result Wrote MuxFault → State → Type 0
IsWrittenOut told told' carried carried' old (Ok wrote) new = IsWritten told told' carried carried' old new wrote
IsWrittenOut told told' carried carried' old (Err fault) new = FailedToWrite told told' carried carried' old new fault

-- nothing was written, came or was given
abbrev pub IsStill : Wrote → Read → Type 0
IsStill wrote read = (wrote.sent ≡ 0) × ((read.came ≡ false) × (read.gave_one ≡ false))

-- the answer, by what was written and read, and whether the link has given its end
abbrev pub IsChosen : Wrote → Read → Bool → Pumped → Type 0
IsChosen wrote read over Went = (0 < wrote.sent) ⊎ ((read.came ≡ true) ⊎ (read.gave_one ≡ true))
IsChosen wrote read over Quiet = IsStill wrote read × (over ≡ true → wrote.is_all ≡ true → read.stop ≡ Waits → ⊥)
IsChosen wrote read over End = IsStill wrote read × ((over ≡ true) × ((wrote.is_all ≡ true) × (read.stop ≡ Waits)))
