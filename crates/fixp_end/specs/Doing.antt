-- What the caller of an end sees of its calls beside the reply table: what stays, and what waits until an act is done.
use Rattle.std.specs.Prelude.{◌≡◌, ℕ, Option, Some, None, IfSome}
use Rattle.fixp_replies.specs.declared.facts.EndState.{EndState}
use Rattle.fixp_replies.specs.declared.facts.Facts.{Facts}
use Rattle.fixp_replies.specs.Outcomes.{Outcome}
use Rattle.fixp_machine.specs.Fitting.{WasSent}
use Rattle.fixp_machine.specs.Machine.{State}

-- what is recorded once the act that is pending is done; where none is, what is recorded now
abbrev pub recorded_with : Option Outcome → EndState → EndState
recorded_with None recorded = recorded
recorded_with (Some outcome) recorded = outcome.next.recorded

abbrev pub recorded_once_done : State → EndState
recorded_once_done s = recorded_with s.pending s.facts.recorded

-- and the facts
abbrev pub facts_with : Option Outcome → Facts → Facts
facts_with None f = f
facts_with (Some outcome) f = outcome.next

abbrev pub facts_once_done : State → Facts
facts_once_done s = facts_with s.pending s.facts

-- the end was told of no other configuration, greatest number or beginning, and this is the last moment that it was told
pub record Stays (old new : State) (now : ℕ) : Type 0 where
  pub config : new.config ≡ old.config
  pub most : new.most ≡ old.most
  pub begun : new.begun ≡ old.begun
  pub moment : new.moment ≡ now

-- a frame's act is still to be done: nothing took effect yet
pub record Waits (old new : State) : Type 0 where
  pub facts : new.facts ≡ old.facts
  pub ending : new.ending ≡ old.ending
  pub unsent : new.unsent ≡ old.unsent

-- the range that is served, if one is, was sent
abbrev pub Serves : Facts → Type 0
Serves f = IfSome f.connection.serving (WasSent f.recorded.sent)
