use Rattle.std.proofs.Common.{◌≡◌, All, take, length, sym, subst, ◌∙◌, arith}
use Rattle.std.proofs.Math.Seq.{take-length}
use Rattle.std.proofs.lemmas.List.{get_or_default}
use Rattle.std.proofs.lemmas.List.Elements.{All-more}
use Rattle.gate_staff.specs.Submitted.{OnlyClosed}
use Rattle.gate_staff.proofs.plans.first_refusal.Goals as goal

pub returns-in-Some : goal.returns-in-Some
returns-in-Some g c =
    let s = c.sender-item.result in
    let i = c.loop-sender.sender-index in
    record {
      sender = s;
      there = (i, c.loop-sender-test.true, get_or_default c.args.senders.now i s s c.loop-sender-test.true ∙ sym c.sender-item.is);
      is = sym c.refusal_of.ensures ∙ c.in-Some.is;
    }

pub loop-sender-preserved : goal.loop-sender-preserved
loop-sender-preserved g c =
    let s = c.sender-item.result in
    let i = c.loop-sender.sender-index in
    All-more (OnlyClosed (λ fault. fault)) c.args.senders.now i s c.loop-sender-test.true c.loop-sender.invariant
    (subst (OnlyClosed (λ fault. fault)) (sym (get_or_default c.args.senders.now i s s c.loop-sender-test.true ∙ sym c.sender-item.is)) (sym c.refusal_of.ensures ∙ c.in_default.is))

pub returns : goal.returns
returns g c =
    let senders = c.args.senders.now in
    let end : c.loop-sender.sender-index ≡ length senders = omega (arith, c.loop-sender-test.false, c.loop-sender.auto.sender-index-end) in
    subst (All (OnlyClosed (λ fault. fault))) (take-length senders) (subst (λ k. All (OnlyClosed (λ fault. fault)) (take k senders)) end c.loop-sender.invariant)
