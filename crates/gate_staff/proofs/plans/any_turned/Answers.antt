use Rattle.std.proofs.Common.{◌≡◌, All, take, length, sym, subst, ◌∙◌, arith}
use Rattle.std.proofs.Math.Seq.{take-length}
use Rattle.std.proofs.lemmas.List.{get_or_default}
use Rattle.std.proofs.lemmas.List.Elements.{All-more}
use Rattle.gate_staff.specs.Runs.{IsAdmitted}
use Rattle.gate_staff.proofs.plans.any_turned.Goals as goal

pub loop-sender-preserved : goal.loop-sender-preserved
loop-sender-preserved g c =
    let s = c.sender-item.result in
    let i = c.loop-sender.sender-index in
    All-more IsAdmitted c.args.senders.now i s c.loop-sender-test.true c.loop-sender.invariant
    (subst IsAdmitted (sym (get_or_default c.args.senders.now i s s c.loop-sender-test.true ∙ sym c.sender-item.is)) c.if-sender.false)

pub returns-clause-none : goal.returns-clause-none
returns-clause-none g c = λ _.
    let senders = c.args.senders.now in
    let end : c.loop-sender.sender-index ≡ length senders = omega (arith, c.loop-sender-test.false, c.loop-sender.auto.sender-index-end) in
    subst (All IsAdmitted) (take-length senders) (subst (λ k. All IsAdmitted (take k senders)) end c.loop-sender.invariant)
