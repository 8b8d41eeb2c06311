-- That turns of two ends are steps of two honest ends, and what follows for a connection between them.
use Rattle.std.specs.Prelude.{◌≡◌, true, None}
use Rattle.session_model.specs.Journal.{payloads}
use Rattle.session_model.specs.Inbox.{applied, payloads_of}
use Rattle.session_model.specs.Growth.{AppliesPrefix}
use Rattle.fixp_shake.specs.Flows.{is_sequenced}
use Rattle.honest_ends.specs.PhaseLaws.{IsOfTime, EndsBy}
use Rattle.honest_turns.specs.Links.{OverOneLink}
use Rattle.honest_turns.specs.Sides.{Side, behind, inbox_behind, MakesTurns, Agree, AreAtRest, HasWhole}

-- A connection of each end over one link, where both know no more of each other than was sent: neither ends by a violation but one of
-- time, and they know no more of each other behind it
abbrev pub ConnectionHolds : Type 0
ConnectionHolds = (i a : Side) → MakesTurns i → MakesTurns a → OverOneLink i.leg a.leg → Agree i.outbox.made a.outbox.made i.state a.state
    → EndsBy IsOfTime (behind i) × EndsBy IsOfTime (behind a) × Agree i.outbox.made a.outbox.made (behind i) (behind a)

-- Where the turns of both are whole, and the ends are at rest behind them, each inbox of a flow with numbers awaits one past all of the
-- other's outbox
abbrev pub RestHolds : Type 0
RestHolds = (i a : Side) (ki : MakesTurns i) (ka : MakesTurns a) → OverOneLink i.leg a.leg → Agree i.outbox.made a.outbox.made i.state a.state
    → i.leg.cut ≡ None → a.leg.cut ≡ None → AreAtRest i a ki.turns.last ka.turns.last
    → HasWhole a.outbox.made i × HasWhole i.outbox.made a

-- and one that applies a beginning of the other's journal, as the guarantee of a recoverable flow says, has applied all of it
abbrev pub WholeIsEqual : Type 0
WholeIsEqual = (s other : Side) → is_sequenced s.state.config.peer_flow ≡ true → AppliesPrefix other.outbox.made (inbox_behind s) → HasWhole other.outbox.made s
    → payloads_of (applied (inbox_behind s)) ≡ payloads other.outbox.made
