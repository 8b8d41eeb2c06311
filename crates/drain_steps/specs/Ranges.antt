-- What an end sends again was sent before: over any steps of two ends of one session (FIXP 1.1, "Retransmission").
use Rattle.std.specs.Prelude.{◌+◌, ◌≤◌, List, IfSome}
use Rattle.session_model.specs.Journal.{Entry}
use Rattle.fixp_replies.specs.declared.facts.Facts.{Facts}
use Rattle.honest_ends.specs.Worlds.{World, Step, world_after, AllMayStep}
use Rattle.honest_ends.specs.Knowing.{StartsKnown}

-- a range that is served has messages, from number 1 on, and ends with what was sent
abbrev pub InRange : Facts → Type 0
InRange f = IfSome f.connection.serving (λ r. (1 ≤ r.count) × (r.from + r.count ≤ f.recorded.sent + 1) × (1 ≤ r.from))

-- at both ends
pub record Ranged (w : World) : Type 0 where
  pub initiator : InRange w.initiator.facts
  pub acceptor : InRange w.acceptor.facts

-- whatever steps came, where each may come
abbrev pub RangesHold : Type 0
RangesHold = (hi ha : List Entry) (w : World) (steps : List Step) → StartsKnown hi ha w → AllMayStep hi ha w steps → Ranged (world_after w steps)
