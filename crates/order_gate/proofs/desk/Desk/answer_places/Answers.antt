use Rattle.std.proofs.Common.{◌-◌, ◌+◌, ◌≡◌, All, OnOk, drop, length, sym, subst, ◌∙◌}
use Rattle.fixp_msgs.specs.Payload.{IsApplication}
use Rattle.order_desk.specs.Plans.{share}
use Rattle.order_gate.specs.Desks.{known_of, due}
use Rattle.order_gate.specs.Reported.{Reported}
use Rattle.order_gate.proofs.Parts.{reported_nothing}
use Rattle.order_gate.proofs.Sending.{applications}
use Rattle.order_gate.proofs.desk.Desk.answer_places.Goals as goal

pub returns-in_default-clause-reported : goal.returns-in_default-clause-reported
returns-in_default-clause-reported g c = reported_nothing (known_of c.args.self.now) (drop c.args.self.now.owed (due c.args.call.now.plan.now c.args.call.now.reference c.args.call.now.desks c.args.call.now.turn c.args.call.now.payloads.now c.args.self.now.number))

pub send_all-requires-clause-applications : goal.send_all-requires-clause-applications
send_all-requires-clause-applications g c =
    let call = c.args.call.now in
    let n = c.args.self.now.number in
    subst (λ xs. All IsApplication xs) (sym (c.as_slice.ensures.value ∙ c.in-Ok.ensures))
    (applications c.answers_are_application.ensures.law call.plan.now c.requires.plan n call.reference (share call.desks n (call.turn + 1) call.payloads.now))

pub returns-clause-reported : goal.returns-clause-reported
returns-clause-reported g c =
    let s = c.args.self.now in
    subst (λ xs. Reported (known_of s) (known_of c.send_all.new.self) (drop s.owed xs) c.send_all.result) (c.as_slice.ensures.value ∙ c.in-Ok.ensures) c.send_all.ensures.reported

pub returns-clause-owed : goal.returns-clause-owed
returns-clause-owed g c =
    let s = c.args.self.now in
    subst (λ xs. OnOk c.send_all.result (c.send_all.new.self.owed ≡ s.owed - length xs)) (c.as_slice.ensures.value ∙ c.in-Ok.ensures) c.send_all.ensures.owed
