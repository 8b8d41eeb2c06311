-- All connections of a life of each of two ends, in the order of time.
use Rattle.std.specs.Prelude.{◌≡◌, List, [], ◌∷◌}
use Rattle.std.specs.List.{AllByRecursion}
use Rattle.session_model.specs.Journal.{History}
use Rattle.session_model.specs.Inbox.{InboxRecord}
use Rattle.fixp_shake.specs.declared.config.EndConfig.{EndConfig}
use Rattle.fixp_machine.specs.Machine.{State}
use Rattle.turn_laws.specs.Legs.{TurnedLeg, given_on}
use Rattle.two_ends.specs.Loops.{LinkedLinks}
use Rattle.honest_ends.specs.PhaseLaws.{IsOfTime, EndsBy}
use Rattle.honest_turns.specs.Links.{OverOneLink}
use Rattle.honest_turns.specs.Sides.{Side, behind, inbox_behind, IsReady, MakesTurns, Agree}

-- Connections of two ends: paired in the same order at both, each in at most one pair, and a pair over one link. On a connection in no
-- pair, whose link the other end never took up, nothing came
pub data InTime : List TurnedLeg → List TurnedLeg → Type 0 where
  no_more : InTime [] []
  initiator_alone : {i : TurnedLeg} {is as' : List TurnedLeg} → given_on i ≡ [] → InTime is as' → InTime (i ∷ is) as'
  acceptor_alone : {a : TurnedLeg} {is as' : List TurnedLeg} → given_on a ≡ [] → InTime is as' → InTime is (a ∷ as')
  paired : {i a : TurnedLeg} {is as' : List TurnedLeg} → OverOneLink i a → InTime is as' → InTime (i ∷ is) (a ∷ as')

-- so they are linked, as the law on what two ends hold of each other asks: what a link gave one end are the first of the bytes that it took
-- of the other, and who gave nothing is a stranger
abbrev pub TimeIsLinked : Type 0
TimeIsLinked = (configs_i configs_a : List EndConfig) (is as' : List TurnedLeg) → InTime is as' → LinkedLinks configs_i configs_a is as'

-- an end over its outbox, with its machine and its inbox
pub record End : Type 0 where
  pub outbox : History
  pub state : State
  pub inbox : List InboxRecord

abbrev pub side_of : End → TurnedLeg → Side
side_of e t = record { outbox = e.outbox; state = e.state; inbox = e.inbox; leg = t }

-- as a connection leaves it
abbrev pub end_behind : End → TurnedLeg → End
end_behind e t = record { outbox = e.outbox; state = behind (side_of e t); inbox = inbox_behind (side_of e t) }

-- its connections, one behind another, and the end behind them all
abbrev pub sides : End → List TurnedLeg → List Side
sides e [] = []
sides e (t ∷ later) = side_of e t ∷ sides (end_behind e t) later

abbrev pub end_after : End → List TurnedLeg → End
end_after e [] = e
end_after e (t ∷ later) = end_after (end_behind e t) later

-- both ends between two connections, and what they know of each other
pub record AgreeAt (i a : End) : Type 0 where
  pub initiator : IsReady i.outbox i.state i.inbox
  pub acceptor : IsReady a.outbox a.state a.inbox
  pub agree : Agree i.outbox.made a.outbox.made i.state a.state

-- no connection of these ended by a violation but one of time
abbrev pub EndInTime : List Side → Type 0
EndInTime ss = AllByRecursion (λ s. EndsBy IsOfTime (behind s)) ss

-- so it is of all connections of a life of each end, whatever is cut, and they know no more of each other behind them
abbrev pub LifeHolds : Type 0
LifeHolds = (i a : End) (is as' : List TurnedLeg) → AgreeAt i a → AllByRecursion MakesTurns (sides i is) → AllByRecursion MakesTurns (sides a as')
    → InTime is as' → EndInTime (sides i is) × EndInTime (sides a as') × AgreeAt (end_after i is) (end_after a as')
