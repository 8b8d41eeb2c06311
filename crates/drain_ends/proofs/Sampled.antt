-- The sample, computed.
use Rattle.std.proofs.Common.{refl}
use Rattle.drain_ends.specs.Acting as acts
use Rattle.drain_ends.specs.Rows.{MeasureSample, WaitedSample, ToDoSample}

pub measured : MeasureSample
measured = (refl, refl, refl, refl, refl, refl, refl, refl, refl)

pub waited : WaitedSample
waited = ((λ t. t), refl, refl, refl, refl)

pub due : ToDoSample
due = (acts.at_initiator refl (acts.tells refl refl), acts.at_initiator refl (acts.shuts refl), acts.at_acceptor refl (acts.reads refl))
