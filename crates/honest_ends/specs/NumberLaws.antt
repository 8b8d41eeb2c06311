-- That no connection of two ends of one session ends by a violation of numbers or of a retransmission.
use Rattle.std.specs.Prelude.{⊤, List}
use Rattle.session_model.specs.Journal.{Entry}
use Rattle.fixp_shake.specs.declared.violation.Violation.{Violation}
use Rattle.fixp_shake.specs.declared.violation.Violation.TheVariants.{BadFrame, UnknownTemplate, NotInPhase, OtherSession, WentBack, MissingNext, NumberTooLarge, BadRetransmission, AfterFinish, FlowNone, Silent, HandshakeLate}
use Rattle.honest_ends.specs.PhaseLaws.{EndsBy}
use Rattle.honest_ends.specs.Worlds.{World, Step, world_after, AllMayStep}
use Rattle.honest_ends.specs.Knowing.{StartsKnown}
use Rattle.honest_ends.specs.Numbered.{Numbered}

-- a violation neither of numbers nor of a retransmission
abbrev pub NoNumber : Violation → Type 0
NoNumber (BadFrame at) = ⊤
NoNumber (UnknownTemplate id) = ⊤
NoNumber (NotInPhase template phase) = ⊤
NoNumber (OtherSession template) = ⊤
NoNumber (WentBack announced expected) = ⊥
NoNumber (MissingNext template) = ⊤
NoNumber (NumberTooLarge announced) = ⊥
NoNumber (BadRetransmission expected found) = ⊥
NoNumber (AfterFinish last found) = ⊤
NoNumber (FlowNone template) = ⊤
NoNumber (Silent last now) = ⊤
NoNumber (HandshakeLate start now) = ⊤

-- whatever steps come, where each may come
abbrev pub NumbersHold : Type 0
NumbersHold = (hi ha : List Entry) (w : World) (steps : List Step) → StartsKnown hi ha w → AllMayStep hi ha w steps
    → EndsBy NoNumber (world_after w steps).initiator × EndsBy NoNumber (world_after w steps).acceptor

-- and the numbers of both flows are as they have to be at each moment
abbrev pub NumberedHolds : Type 0
NumberedHolds = (hi ha : List Entry) (w : World) (steps : List Step) → StartsKnown hi ha w → AllMayStep hi ha w steps → Numbered hi ha (world_after w steps)
