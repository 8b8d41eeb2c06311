use Rattle.std.proofs.Common.{rules, ◌≡◌, refl, false, All, Option, Some, None, is_some, take, length, sym, subst, ◌∙◌, arith}
use Rattle.std.proofs.Math.Seq.{take-length}
use Rattle.std.proofs.lemmas.List.{get_or_default}
use Rattle.std.proofs.lemmas.List.Elements.{All-more}
use Rattle.jr_boxes.specs.declared.faults.SubmitFault.{SubmitFault}
use Rattle.gate_staff.specs.Runs.{IsThrough}
use Rattle.gate_staff.proofs.plans.all_through.Goals as goal

none_of : (o : Option SubmitFault) → is_some o ≡ false → o ≡ None
none_of None e = refl
none_of (Some f) e = absurd (cc e)

pub loop-sender-preserved : goal.loop-sender-preserved
loop-sender-preserved g c =
    let s = c.sender-item.result in
    let i = c.loop-sender.sender-index in
    All-more IsThrough c.args.senders.now i s c.loop-sender-test.true c.loop-sender.invariant
    (subst IsThrough (sym (get_or_default c.args.senders.now i s s c.loop-sender-test.true ∙ sym c.sender-item.is)) (none_of s.refused (search (rules, c.if-is_some.false, c.is_some.ensures)), c.if-sender.false))

pub returns-clause-all : goal.returns-clause-all
returns-clause-all g c = λ _.
    let senders = c.args.senders.now in
    let end : c.loop-sender.sender-index ≡ length senders = omega (arith, c.loop-sender-test.false, c.loop-sender.auto.sender-index-end) in
    subst (All IsThrough) (take-length senders) (subst (λ k. All IsThrough (take k senders)) end c.loop-sender.invariant)
