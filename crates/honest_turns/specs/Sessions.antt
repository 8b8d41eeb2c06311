-- All that comes of two ends of a session: connections of both, and new lives of either while the other lives on (this project's profile).
use Rattle.std.specs.Prelude.{◌≡◌, ⊤, ℕ, ◌≤◌, List, length, Some, IfSome}
use Rattle.std.specs.List.{AllByRecursion}
use Rattle.fixp_shake.specs.declared.config.EndConfig.{EndConfig}
use Rattle.turn_laws.specs.Legs.{TurnedLeg}
use Rattle.honest_turns.specs.Sides.{IsReady, MakesTurns}
use Rattle.honest_turns.specs.Lives.{InTime, End, sides, end_after, AgreeAt, EndInTime}

-- the configuration of a next life: of the same end and session, with the same credentials and flows; how often it is to hear and to be heard, and the version of
-- the session schema that it speaks, may be others
pub record SameSession (old new : EndConfig) : Type 0 where
  pub role : new.role ≡ old.role
  pub session : new.session ≡ old.session
  pub credentials : new.credentials ≡ old.credentials
  pub own : new.own_flow ≡ old.own_flow
  pub peer : new.peer_flow ≡ old.peer_flow
  pub interval : (100 ≤ new.keepalive) × (new.keepalive ≤ 60000)

-- A next life of an end, over the same outbox, in the same session. It awaits the number that the one before came to await, and knows
-- the same last number of the other end. It counts as sent all that its outbox held as it opened, so all that was sent before; and it knows
-- a finish of its outbox where the one before knew it, behind all entries
pub record Reopens (old new : End) : Type 0 where
  pub outbox : new.outbox ≡ old.outbox
  pub ready : IsReady new.outbox new.state new.inbox
  pub config : SameSession old.state.config new.state.config
  pub most : new.state.most ≡ old.state.most
  pub next : new.state.facts.recorded.inbox_next ≡ old.state.facts.recorded.inbox_next
  pub last : new.state.facts.recorded.peer_last ≡ old.state.facts.recorded.peer_last
  pub sent : old.state.facts.recorded.sent ≤ new.state.facts.recorded.sent
  pub enough : new.state.facts.recorded.sent ≤ length new.outbox.made
  pub finish : IfSome new.state.facts.recorded.finish (λ n. n ≡ length new.outbox.made)
  pub kept : (n : ℕ) → old.state.facts.recorded.finish ≡ Some n → new.state.facts.recorded.finish ≡ Some n

-- What comes of two ends, in the order of time: some connections of both, a next life of one of them, and so on
pub data Goes : End → End → Type 0 where
  no_more : {i a : End} → Goes i a
  connects : {i a : End} (is as' : List TurnedLeg) → AllByRecursion MakesTurns (sides i is) → AllByRecursion MakesTurns (sides a as') → InTime is as'
      → Goes (end_after i is) (end_after a as') → Goes i a
  initiator_opens : {i a : End} (j : End) → Reopens i j → Goes j a → Goes i a
  acceptor_opens : {i a : End} (b : End) → Reopens a b → Goes i b → Goes i a

-- no connection of them ended by a violation but one of time
abbrev pub AllInTime : (i a : End) → Goes i a → Type 0
AllInTime i a no_more = ⊤
AllInTime i a (connects is as' x y link later) = EndInTime (sides i is) × EndInTime (sides a as') × AllInTime (end_after i is) (end_after a as') later
AllInTime i a (initiator_opens j opens later) = AllInTime j a later
AllInTime i a (acceptor_opens b opens later) = AllInTime i b later

-- and how both ends stand behind it all
abbrev pub initiator_behind : (i a : End) → Goes i a → End
initiator_behind i a no_more = i
initiator_behind i a (connects is as' x y link later) = initiator_behind (end_after i is) (end_after a as') later
initiator_behind i a (initiator_opens j opens later) = initiator_behind j a later
initiator_behind i a (acceptor_opens b opens later) = initiator_behind i b later

abbrev pub acceptor_behind : (i a : End) → Goes i a → End
acceptor_behind i a no_more = a
acceptor_behind i a (connects is as' x y link later) = acceptor_behind (end_after i is) (end_after a as') later
acceptor_behind i a (initiator_opens j opens later) = acceptor_behind j a later
acceptor_behind i a (acceptor_opens b opens later) = acceptor_behind i b later

-- so it is of two ends that know no more of each other at first than was sent, as where their journals are empty; and they know no more behind it
abbrev pub SessionHolds : Type 0
SessionHolds = (i a : End) (goes : Goes i a) → AgreeAt i a → AllInTime i a goes × AgreeAt (initiator_behind i a goes) (acceptor_behind i a goes)

-- since a next life of either knows no more of the other, nor the other of it
abbrev pub NewLifeAgrees : Type 0
NewLifeAgrees = (i a j b : End) → AgreeAt i a → (Reopens i j → AgreeAt j a) × (Reopens a b → AgreeAt i b)
