-- Two ends at rest: quiet, or both finishes exchanged at both ends (this project's profile). And what an inbox awaits then.
use Rattle.std.specs.Prelude.{◌≡◌, ◌⊎◌, ◌+◌, true, List, [], length, None, IfSome}
use Rattle.session_model.specs.Journal.{Entry}
use Rattle.flow_retrans.specs.declared.request.Request.TheVariants as requests
use Rattle.fixp_shake.specs.Flows.{is_sequenced}
use Rattle.fixp_shake.specs.Phases.{is_established}
use Rattle.fixp_replies.specs.Facts.{finishes_exchanged}
use Rattle.fixp_machine.specs.Machine.{State, around}
use Rattle.honest_ends.specs.Worlds.{World}

-- An end with nothing to do: its connection is open and established, it asks for nothing, and its whole outbox was sent
pub record IsIdle (h : List Entry) (s : State) : Type 0 where
  pub going : s.ending ≡ None
  pub established : is_established s.facts.connection.phase ≡ true
  pub unasked : s.facts.connection.requester ≡ requests.Nothing
  pub sent : s.facts.recorded.sent ≡ length h

-- both are idle, and nothing is under way
pub record IsQuiet (hi ha : List Entry) (w : World) : Type 0 where
  pub initiator : IsIdle hi w.initiator
  pub acceptor : IsIdle ha w.acceptor
  pub outward : w.outward ≡ []
  pub homeward : w.homeward ≡ []

-- both finishes are exchanged at both ends
pub record IsOver (w : World) : Type 0 where
  pub initiator : finishes_exchanged (around w.initiator 0 0) w.initiator.facts ≡ true
  pub acceptor : finishes_exchanged (around w.acceptor 0 0) w.acceptor.facts ≡ true

-- two ends at rest
abbrev pub IsAtRest : (of_initiator of_acceptor : List Entry) → World → Type 0
IsAtRest hi ha w = IsQuiet hi ha w ⊎ IsOver w

-- the inbox of a flow with numbers awaits one past all of these entries
abbrev pub HasAll : List Entry → State → Type 0
HasAll h reader = is_sequenced reader.config.peer_flow ≡ true → reader.facts.recorded.inbox_next ≡ length h + 1

-- a finish that is recorded of a flow with numbers comes behind all of it: the inbox awaits one past the last number
abbrev pub EndsLast : State → Type 0
EndsLast s = is_sequenced s.config.peer_flow ≡ true → IfSome s.facts.recorded.peer_last (λ last. s.facts.recorded.inbox_next ≡ last + 1)
