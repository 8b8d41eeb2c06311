-- What a dialer hands on of its guests, and whom it turns away.
use Rattle.std.specs.Prelude.{◌≡◌, ◌≢◌, ◌⊎◌, ⊤, ℕ, ◌<◌, List, ◌++◌, take, Option, Some, None, IfSome}
use Rattle.std.specs.List.{AllByRecursion}
use Rattle.gw_links.specs.Links.{LinkTold}
use Rattle.gw_links.specs.Dialers.{DialerTold}
use Rattle.gw_guests.specs.Guests.{GuestsTold, TurnedAway}
use Rattle.conn_keys.specs.declared.keys.Keys.{Keys}
use Rattle.conn_keys.specs.Verdicts.{verdict_of, looked_at, serves}

-- the first frame that waits at a link gives the keys, where it tells what waits
abbrev pub IsKnown : Keys → Option LinkTold → Type 0
IsKnown k told = IfSome told (λ (t : LinkTold). verdict_of k t.waits ≡ serves)

-- what is looked at of it does
abbrev pub LooksKnown : Keys → Option LinkTold → Type 0
LooksKnown k told = IfSome told (λ (t : LinkTold). verdict_of k (take looked_at t.waits) ≡ serves)

-- it does not, or the link failed as it was looked at
abbrev pub IsStranger : Keys → TurnedAway → Type 0
IsStranger k a = IfSome a.told (λ (t : LinkTold). (0 < a.faults) ⊎ (verdict_of k (take looked_at t.waits) ≢ serves))

-- strangers were turned away, and nobody came back
pub record TurnedStrangers (k : Keys) (old new : GuestsTold) : Type 0 where
  pub more : List TurnedAway
  pub away : new.away ≡ old.away ++ more
  pub strangers : AllByRecursion (IsStranger k) more
  pub back : new.back ≡ old.back

-- the same of guests of which nothing may be told
abbrev pub TurnsStrangers : Keys → Option GuestsTold → Option GuestsTold → Type 0
TurnsStrangers k None None = ⊤
TurnsStrangers k None (Some new) = ⊥
TurnsStrangers k (Some old) None = ⊥
TurnsStrangers k (Some old) (Some new) = TurnedStrangers k old new

-- what it tells that hands on so many more: of strangers nothing
abbrev pub knowing : (left : ℕ) → GuestsTold → DialerTold
knowing left t = record { left = left; back = t.back }
