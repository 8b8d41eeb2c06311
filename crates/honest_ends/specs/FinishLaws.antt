-- That no connection of two ends of one session ends by a violation behind a finish, and that time alone ends one by a violation.
use Rattle.std.specs.Prelude.{⊤, List, []}
use Rattle.session_model.specs.Journal.{Entry}
use Rattle.fixp_shake.specs.declared.violation.Violation.{Violation}
use Rattle.fixp_shake.specs.declared.violation.Violation.TheVariants.{BadFrame, UnknownTemplate, NotInPhase, OtherSession, WentBack, MissingNext, NumberTooLarge, BadRetransmission, AfterFinish, FlowNone, Silent, HandshakeLate}
use Rattle.honest_ends.specs.PhaseLaws.{IsOfTime, EndsBy}
use Rattle.fixp_machine.specs.Machine.{fresh}
use Rattle.honest_ends.specs.Worlds.{World, Step, world_after, AllMayStep}
use Rattle.honest_ends.specs.Knowing.{StartsKnown}
use Rattle.honest_ends.specs.Finished.{Finished}

-- a violation that is not behind a finish
abbrev pub NoFinish : Violation → Type 0
NoFinish (BadFrame at) = ⊤
NoFinish (UnknownTemplate id) = ⊤
NoFinish (NotInPhase template phase) = ⊤
NoFinish (OtherSession template) = ⊤
NoFinish (WentBack announced expected) = ⊤
NoFinish (MissingNext template) = ⊤
NoFinish (NumberTooLarge announced) = ⊤
NoFinish (BadRetransmission expected found) = ⊤
NoFinish (AfterFinish last found) = ⊥
NoFinish (FlowNone template) = ⊤
NoFinish (Silent last now) = ⊤
NoFinish (HandshakeLate start now) = ⊤

-- whatever steps come, where each may come
abbrev pub FinishesHold : Type 0
FinishesHold = (hi ha : List Entry) (w : World) (steps : List Step) → StartsKnown hi ha w → AllMayStep hi ha w steps
    → EndsBy NoFinish (world_after w steps).initiator × EndsBy NoFinish (world_after w steps).acceptor

-- and the finishes of both flows are as they have to be at each moment
abbrev pub FinishedHolds : Type 0
FinishedHolds = (hi ha : List Entry) (w : World) (steps : List Step) → StartsKnown hi ha w → AllMayStep hi ha w steps → Finished hi ha (world_after w steps)

-- with the laws of phases and of numbers no violation is left but those of time
abbrev pub OnlyTimeEnds : Type 0
OnlyTimeEnds = (hi ha : List Entry) (w : World) (steps : List Step) → StartsKnown hi ha w → AllMayStep hi ha w steps
    → EndsBy IsOfTime (world_after w steps).initiator × EndsBy IsOfTime (world_after w steps).acceptor

-- the next lives of both ends, over what they have recorded
abbrev pub anew : World → World
anew w = record {
  initiator = fresh w.initiator.config w.initiator.facts.recorded w.initiator.most;
  acceptor = fresh w.acceptor.config w.acceptor.facts.recorded w.acceptor.most;
  outward = [];
  homeward = [];
}

-- begin with what the laws ask of a beginning
abbrev pub StaysKnown : Type 0
StaysKnown = (hi ha : List Entry) (w : World) (steps : List Step) → StartsKnown hi ha w → AllMayStep hi ha w steps
    → StartsKnown hi ha (anew (world_after w steps))
