use Rattle.std.proofs.Common.{refl}
use Rattle.gate_staff.proofs.Leaving.{worked_there}
use Rattle.gate_staff.proofs.plans.PlansProducers.produce.Goals as goal

pub go_on-requires : goal.go_on-requires
go_on-requires g c = record { ready = c.requires.ready c.args.gate.now refl refl }

pub returns-clause-worked : goal.returns-clause-worked
returns-clause-worked g c = worked_there c.args.gate.now c.args.sender.now c.go_on.new.self c.go_on.ensures.resumed
