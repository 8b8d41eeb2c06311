-- What a dialer tells, and what its calls do to it (this project's profile).
use Rattle.std.specs.Prelude.{⊤, ◌≡◌, ℕ, ◌-◌, ◌<◌, List, [], ◌∷◌, ◌++◌, Option, None, Some, Result, Ok, Err}
use Rattle.gw_links.specs.Links.{Carried}
use Rattle.gw_links.specs.declared.dialer.Next.{Next}
use Rattle.gw_links.specs.declared.dialer.Next.TheVariants as nexts

-- How many connections are left, and, of each link that came back, in order, what it tells that it had carried.
pub record DialerTold : Type 0 where
  pub left : ℕ
  pub back : List (Option Carried)

-- the connection that came, if one did
abbrev pub link_in : {L : Type 0} → Next L → Option L
link_in (nexts.Link link) = Some link
link_in nexts.NoneLeft = None
link_in nexts.Stopped = None

-- A connection comes only where one is left, and that none is left is said only where that is so. A stop may come at any moment
abbrev pub IsLeft : {L : Type 0} → ℕ → Next L → Type 0
IsLeft left (nexts.Link link) = 0 < left
IsLeft left nexts.NoneLeft = left ≡ 0
IsLeft left nexts.Stopped = ⊤

-- after this answer: one fewer is left where a connection came
abbrev pub dialed : {L E : Type 0} → Result (Next L) E → DialerTold → DialerTold
dialed (Ok (nexts.Link link)) t = record t { left = t.left - 1 }
dialed (Ok nexts.NoneLeft) t = t
dialed (Ok nexts.Stopped) t = t
dialed (Err e) t = t

-- after a link came back that had carried this
abbrev pub returned : Option Carried → DialerTold → DialerTold
returned carried t = record t { back = t.back ++ carried ∷ [] }
