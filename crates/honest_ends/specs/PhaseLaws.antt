-- Which violations end no connection of two ends of one session.
use Rattle.std.specs.Prelude.{◌≡◌, ⊤, List, Some}
use Rattle.session_model.specs.Journal.{Entry}
use Rattle.fixp_shake.specs.declared.violation.Violation.{Violation}
use Rattle.fixp_shake.specs.declared.violation.Violation.TheVariants.{BadFrame, UnknownTemplate, NotInPhase, OtherSession, WentBack, MissingNext, NumberTooLarge, BadRetransmission, AfterFinish, FlowNone, Silent, HandshakeLate}
use Rattle.fixp_replies.specs.declared.act.Ending.TheVariants as endings
use Rattle.fixp_machine.specs.Machine.{State}
use Rattle.honest_ends.specs.Worlds.{World, Step, world_after, AllMayStep, Starts}

-- of the violations these alone are left: of numbers, of a retransmission, behind a finish, of silence, and of a late handshake
abbrev pub IsLeft : Violation → Type 0
IsLeft (BadFrame at) = ⊥
IsLeft (UnknownTemplate id) = ⊥
IsLeft (NotInPhase template phase) = ⊥
IsLeft (OtherSession template) = ⊥
IsLeft (WentBack announced expected) = ⊤
IsLeft (MissingNext template) = ⊥
IsLeft (NumberTooLarge announced) = ⊤
IsLeft (BadRetransmission expected found) = ⊤
IsLeft (AfterFinish last found) = ⊤
IsLeft (FlowNone template) = ⊥
IsLeft (Silent last now) = ⊤
IsLeft (HandshakeLate start now) = ⊤

-- of time alone: of silence, or of a late handshake
abbrev pub IsOfTime : Violation → Type 0
IsOfTime (BadFrame at) = ⊥
IsOfTime (UnknownTemplate id) = ⊥
IsOfTime (NotInPhase template phase) = ⊥
IsOfTime (OtherSession template) = ⊥
IsOfTime (WentBack announced expected) = ⊥
IsOfTime (MissingNext template) = ⊥
IsOfTime (NumberTooLarge announced) = ⊥
IsOfTime (BadRetransmission expected found) = ⊥
IsOfTime (AfterFinish last found) = ⊥
IsOfTime (FlowNone template) = ⊥
IsOfTime (Silent last now) = ⊤
IsOfTime (HandshakeLate start now) = ⊤

-- where an end's connection has ended by a violation, it is one of those
abbrev pub EndsBy : (Violation → Type 0) → State → Type 0
EndsBy P s = (v : Violation) → s.ending ≡ Some (endings.Violation v) → P v

-- whatever steps come, where each may come
abbrev pub PhasesHold : Type 0
PhasesHold = (hi ha : List Entry) (w : World) (steps : List Step) → Starts w → AllMayStep hi ha w steps
    → EndsBy IsLeft (world_after w steps).initiator × EndsBy IsLeft (world_after w steps).acceptor
