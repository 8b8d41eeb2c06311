-- Guests in memory: tapes whose front can be looked at, and a listener to which they come in order (this project's profile).
use Rattle.std.specs.Prelude.{◌≡◌, ℕ, ◌+◌, Bool, true, false, List, [], ◌∷◌, ◌++◌, map, drop, Some, if◌then◌else◌}
use Rattle.gw_fakes.specs.InMemory.{one_more}
use Rattle.gw_links.specs.Links.{Carried, LinkTold}
use Rattle.gw_guests.specs.Guests.{GuestsTold, TurnedAway}
use Rattle.gw_link_fakes.specs.Tapes.{Tape, new_tape, told_of, carried_of, IsUnused}

-- a tape; whether each look at it fails; and how many have failed
pub record Guest : Type 0 where
  pub tape : Tape
  pub is_broken : Bool
  pub failed : ℕ

-- nothing was given and taken yet, and no call has failed
pub record IsFresh (g : Guest) : Type 0 where
  pub unused : IsUnused g.tape
  pub received : g.tape.tally.faults ≡ 0
  pub looked : g.failed ≡ 0

-- how many calls have failed
abbrev pub faults_of : Guest → ℕ
faults_of g = g.tape.tally.faults + g.failed

-- after a look at it
abbrev pub looked_at : Guest → Guest
looked_at g = if g.is_broken then record g { failed = one_more g.failed } else g

-- those that are to come, those that came back, and those that were turned away, each in order; and whether one is lent
pub record Hall : Type 0 where
  pub coming : List Guest
  pub back : List Guest
  pub away : List Guest
  pub is_lent : Bool

-- nobody came yet
abbrev pub new_hall : List Guest → Hall
new_hall guests = record { coming = guests; back = []; away = []; is_lent = false }

abbrev pub turned_of : Guest → TurnedAway
turned_of g = record { told = Some (told_of g.tape); faults = faults_of g }

abbrev pub told_of_hall : Hall → GuestsTold
told_of_hall h = record { back = map (λ (g : Guest). Some (carried_of g.tape)) h.back; away = map turned_of h.away }

-- is there one still to come
abbrev pub has_coming : List Guest → Bool
has_coming [] = false
has_coming (g ∷ later) = true

-- after the next came, if one did
abbrev pub arrived : Hall → Hall
arrived h = record h { coming = drop 1 h.coming; is_lent = has_coming h.coming }

abbrev pub came_back : Guest → Hall → Hall
came_back g h = record h { back = h.back ++ g ∷ []; is_lent = false }

abbrev pub sent_away : Guest → Hall → Hall
sent_away g h = record h { away = h.away ++ g ∷ []; is_lent = false }
