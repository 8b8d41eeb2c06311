use Rattle.std.proofs.Common.{Option, refl, sym, ap, ◌∙◌, subst}
use Rattle.std.specs.Prelude.{option_map}
use Rattle.gate_staff.specs.declared.fault.StaffFault.{StaffFault}
use Rattle.gate_staff.proofs.Leaving.{has_there}
use Rattle.conn_door.specs.Answers.{served}
use Rattle.conn_door.specs.Senders.{SubmittedAll}
use Rattle.conn_door.proofs.Resuming.{ready_after, one_run_of}
use Rattle.conn_door.proofs.senders.submit_turned.Goals as goal

pub produce_all-requires-clause-own : goal.produce_all-requires-clause-own
produce_all-requires-clause-own g c κs within = has_there c.args.gate.now c.args.senders.now c.requires.ready

pub returns-clause-ready : goal.returns-clause-ready
returns-clause-ready g c = ready_after c.args.gate.now c.args.senders.now c.produce_all.new.self c.produce_all.ensures.did

pub returns-clause-one_run : goal.returns-clause-one_run
returns-clause-one_run g c = λ before s.
    subst (SubmittedAll c.args.gate.now before c.produce_all.new.self.senders.items) (sym (c.served_if.ensures ∙ ap (λ (o : Option StaffFault). option_map served o) c.fault.ensures))
    (one_run_of c.args.gate.now before c.args.senders.now c.produce_all.new.self c.args.refused s (c.if-not-is_kept_back.ensures.some refl) c.produce_all.ensures.did)
