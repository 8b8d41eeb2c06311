-- What a listener tells of its guests, and what its calls do to it (this project's profile).
use Rattle.std.specs.Prelude.{ℕ, List, [], ◌∷◌, ◌++◌, Option, Some, None}
use Rattle.gw_links.specs.Links.{Carried, LinkTold}
use Rattle.gw_guests.specs.declared.guests.Arrived.{Arrived}
use Rattle.gw_guests.specs.declared.guests.Arrived.TheVariants as arrivals

-- A guest that was turned away: what its link told then, and how many of its calls had failed.
pub record TurnedAway : Type 0 where
  pub told : Option LinkTold
  pub faults : ℕ

-- Of each link that came back, in order, what it tells that it had carried; and those that were turned away, in order.
pub record GuestsTold : Type 0 where
  pub back : List (Option Carried)
  pub away : List TurnedAway

-- the guest that came, if one did
abbrev pub guest_in : {L : Type 0} → Arrived L → Option L
guest_in (arrivals.Guest link) = Some link
guest_in arrivals.Stopped = None

-- after a link came back that had carried this
abbrev pub came_back : Option Carried → GuestsTold → GuestsTold
came_back carried t = record t { back = t.back ++ carried ∷ [] }

-- after a guest was turned away whose link told this
abbrev pub turned_away : Option LinkTold → (faults : ℕ) → GuestsTold → GuestsTold
turned_away told faults t = record t { away = t.away ++ (record { told = told; faults = faults }) ∷ [] }
