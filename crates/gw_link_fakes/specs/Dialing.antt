-- A dialer over tapes (this project's profile).
use Rattle.std.specs.Prelude.{ℕ, Bool, true, false, List, [], ◌∷◌, ◌++◌, length, map, drop, Option, Some, if◌then◌else◌}
use Rattle.gw_links.specs.Links.{Carried}
use Rattle.gw_links.specs.Dialers.{DialerTold}
use Rattle.gw_link_fakes.specs.Tallies.{fails, met, new_tally}
use Rattle.gw_link_fakes.specs.Tapes.{Tape, carried_of}
use Rattle.gw_link_fakes.specs.declared.tally.Tally.{Tally}

-- the links that are left and those that came back, in order; whether one is lent; and the calls of `next`
pub record Dialed : Type 0 where
  pub left : List Tape
  pub back : List Tape
  pub is_lent : Bool
  pub tally : Tally

-- a dialer that gave nothing yet
abbrev pub new_dialer : List Tape → List ℕ → Dialed
new_dialer links fail = record { left = links; back = []; is_lent = false; tally = new_tally fail }

-- what a tape tells that it had carried
abbrev pub told_carried : Tape → Option Carried
told_carried t = Some (carried_of t)

abbrev pub told_of_dialer : Dialed → DialerTold
told_of_dialer d = record { left = length d.left; back = map told_carried d.back }

-- is there a link left
abbrev pub has_left : List Tape → Bool
has_left [] = false
has_left (link ∷ links) = true

-- after a call of `next`
abbrev pub lent_out : Dialed → Dialed
lent_out d =
    if fails d.tally
    then record d { tally = met d.tally }
    else record d { left = drop 1 d.left; is_lent = has_left d.left; tally = met d.tally }

-- after a link came back
abbrev pub came_back : Tape → Dialed → Dialed
came_back link d = record d { back = d.back ++ link ∷ []; is_lent = false }
