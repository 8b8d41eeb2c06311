-- How the connections of two ends of one session end over a link that stands, where no tick of a clock finds an end late: with both finishes exchanged (FIXP 1.1,
-- "Session termination").
use Rattle.std.specs.Prelude.{◌≡◌, ◌⊎◌, ℕ, false, List, ◌∷◌, Some, None}
use Rattle.std.specs.List.{AllByRecursion}
use Rattle.session_model.specs.Journal.{Entry}
use Rattle.fixp_shake.specs.Flows.{is_absent}
use Rattle.fixp_replies.specs.declared.act.Ending.TheVariants as endings
use Rattle.fixp_machine.specs.Machine.{State}
use Rattle.honest_ends.specs.Worlds.{World, Step, meets, after, world_after, AllMayStep}
use Rattle.honest_ends.specs.Knowing.{StartsKnown}
use Rattle.drain_ends.specs.Agreeing.{IsKnown}
use Rattle.drain_ends.specs.Closing.{KeepsLink}
use Rattle.drain_opening.specs.Opening.{AllInTime}

-- a connection of an end goes on, or has ended as finished
abbrev pub GoesOrFinished : State → Type 0
GoesOrFinished s = (s.ending ≡ None) ⊎ (s.ending ≡ Some endings.Finished)

-- whatever steps in time came on a connection, where each may come and its link stands, and the initiator sends
abbrev pub EndsFinished : Type 0
EndsFinished = (hi ha : List Entry) (w : World) (now_i now_a : ℕ) (later : List Step) → StartsKnown hi ha w → IsKnown w → is_absent w.initiator.config.own_flow ≡ false
    → AllMayStep hi ha w (meets now_i now_a ∷ later) → AllByRecursion KeepsLink later → AllInTime (after w (meets now_i now_a)) later
    → GoesOrFinished (world_after w (meets now_i now_a ∷ later)).initiator × GoesOrFinished (world_after w (meets now_i now_a ∷ later)).acceptor
