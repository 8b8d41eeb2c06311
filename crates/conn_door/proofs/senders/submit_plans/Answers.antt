use Rattle.std.proofs.Common.{Option, sym, ap, ◌∙◌, subst}
use Rattle.std.specs.Prelude.{option_map}
use Rattle.gate_staff.specs.declared.fault.StaffFault.{StaffFault}
use Rattle.gate_staff.proofs.Leaving.{has_there}
use Rattle.conn_door.specs.Answers.{served}
use Rattle.conn_door.specs.Senders.{SubmittedAll}
use Rattle.conn_door.proofs.Resuming.{ready_set, ready_after, submitted_of}
use Rattle.conn_door.proofs.senders.submit_plans.Goals as goal

pub run_plans-requires-clause-has : goal.run_plans-requires-clause-has
run_plans-requires-clause-has g c κs within =
    has_there c.args.gate.now c.set_out.new.self (ready_set c.args.gate.now c.args.senders.now.senders.items c.set_out.new.self.senders.items c.set_out.ensures.set_out c.requires.ready)

pub returns-clause-ready : goal.returns-clause-ready
returns-clause-ready g c = ready_after c.args.gate.now c.set_out.new.self c.run_plans.new.senders c.run_plans.ensures.did

pub returns-clause-submitted : goal.returns-clause-submitted
returns-clause-submitted g c =
    subst (SubmittedAll c.args.gate.now c.args.senders.now.senders.items c.run_plans.new.senders.senders.items) (sym (c.served_if.ensures ∙ ap (λ (o : Option StaffFault). option_map served o) c.fault.ensures))
    (submitted_of c.args.gate.now c.args.senders.now.senders.items c.set_out.new.self c.run_plans.new.senders c.set_out.ensures.set_out c.run_plans.ensures.did)
