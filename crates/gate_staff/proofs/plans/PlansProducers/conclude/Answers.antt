use Rattle.std.proofs.Common.{All, ap, sym, subst}
use Rattle.gate_staff.specs.Runs.{IsThrough}
use Rattle.gate_staff.specs.declared.plans.Plans.{Plans}
use Rattle.gate_staff.specs.Business.{lock_of}
use Rattle.gate_senders.specs.Gate.{senders_of}
use Rattle.gate_staff.proofs.Leaving.{back_on, back_ready, has_there, did_there, done_of, again, leaves}
use Rattle.gate_staff.proofs.plans.PlansProducers.conclude.Goals as goal

pub settle-self-requires-clause-ready : goal.settle-self-requires-clause-ready
settle-self-requires-clause-ready g c = back_ready c.args.gate.now c.requires.back.0 c.args.self.now c.replace-senders.result.items
    (back_on _ _ _ c.requires.back.0 c.args.self.now c.args.producers.now.items c.replace-senders.result.items (ap (λ v. v.items) c.replace-senders.ensures.value) c.requires.back.1)

pub returns-clause-own : goal.returns-clause-own
returns-clause-own g c =
    let after : Plans _ _ = record { alloc = c.args.self.now.alloc; senders = c.settle-self.new.senders; done = c.all_through-self.result; why = c.settle-self.result } in
    has_there c.args.gate.now after c.settle-self.ensures.ready

pub returns-clause-did : goal.returns-clause-did
returns-clause-did g c = λ before back.
    let after : Plans _ _ = record { alloc = c.args.self.now.alloc; senders = c.settle-self.new.senders; done = c.all_through-self.result; why = c.settle-self.result } in
    did_there c.args.gate.now before c.args.self.now after c.replace-senders.result.items
    (back_on _ _ _ before c.args.self.now c.args.producers.now.items c.replace-senders.result.items (ap (λ v. v.items) c.replace-senders.ensures.value) back) c.settle-self.ensures.finished
    (λ e. subst (All IsThrough) c.as_slice.ensures.value (c.all_through-self.ensures.all e))
    (done_of c.all_through-self.result (λ e all. c.all_through-self.ensures.some e (subst (All IsThrough) (sym c.as_slice.ensures.value) all))) c.settle-self.ensures.ready

pub returns-clause-again : goal.returns-clause-again
returns-clause-again g c = λ start before first some back.
    let after : Plans _ _ = record { alloc = c.args.self.now.alloc; senders = c.settle-self.new.senders; done = c.all_through-self.result; why = c.settle-self.result } in
    again (lock_of c.args.gate.now) (senders_of c.args.gate.now) start before after first some
    (did_there c.args.gate.now before c.args.self.now after c.replace-senders.result.items
    (back_on _ _ _ before c.args.self.now c.args.producers.now.items c.replace-senders.result.items (ap (λ v. v.items) c.replace-senders.ensures.value) back) c.settle-self.ensures.finished
    (λ e. subst (All IsThrough) c.as_slice.ensures.value (c.all_through-self.ensures.all e))
    (done_of c.all_through-self.result (λ e all. c.all_through-self.ensures.some e (subst (All IsThrough) (sym c.as_slice.ensures.value) all))) c.settle-self.ensures.ready)

pub returns-clause-leaves : goal.returns-clause-leaves
returns-clause-leaves g c = λ start did.
    let after : Plans _ _ = record { alloc = c.args.self.now.alloc; senders = c.settle-self.new.senders; done = c.all_through-self.result; why = c.settle-self.result } in
    leaves c.args.gate.now start after did
