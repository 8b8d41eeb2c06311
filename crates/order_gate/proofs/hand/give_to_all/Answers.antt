use Rattle.std.proofs.Common.{rules, ◌≡◌, ◌+◌, ◌<◌, length, slice_index_or, sym, ap, ◌∙◌, subst, arith}
use Rattle.gate_turn.specs.Listed.{pass_at}
use Rattle.order_gate.specs.declared.hand.Hand.{Hand}
use Rattle.order_gate.specs.Desks.{with_pass}
use Rattle.order_gate.specs.Standing.{at_place}
use Rattle.order_gate.proofs.Places.{one_more, left_more}
use Rattle.order_gate.proofs.Lending.{rest_there}
use Rattle.order_gate.proofs.hand.give_to_all.Goals as goal

pub loop-place-preserved : goal.loop-place-preserved
loop-place-preserved g c =
    let at = c.loop-place.invariant in
    let place = c.loop-place.place in
    let few : place < length c.args.hands.now = omega (arith, c.loop-place-test.true) in
    let it = at_place c.args.hands.now place few in
    let d = c.index-hands-place.result in
    let x = slice_index_or c.loop-place.hands place d in
    let is : (h : Hand _ _ _) → slice_index_or c.args.hands.now place h ≡ x = λ h. it.at h ∙ sym (at.left place d (omega arith) ∙ it.at d) in
    let number : x.desk.number ≡ place + 1 = subst (λ (h : Hand _ _ _). h.desk.number ≡ place + 1) (sym (at.left place d (omega arith))) (c.requires.numbered place d few) in
    let back = c.regain.ensures.back ∙ ap (λ k. with_pass (pass_at c.loop-place.passes k) x) number ∙ ap (λ o. with_pass o x) (at.there (place + 1) (omega arith)) in
    record {
      long = search rules;
      given = one_more c.args.hands.now c.loop-place.hands place c.regain.new.self (omega (arith, few, at.long)) (λ h k i. k ≡ with_pass (pass_at c.args.passes (i + 1)) h) at.given
          (λ h. back ∙ ap (λ (z : Hand _ _ _). with_pass (pass_at c.args.passes (place + 1)) z) (sym (is h)));
      left = left_more c.args.hands.now c.loop-place.hands place c.regain.new.self (omega (arith, few, at.long)) at.left;
      there = rest_there c.args.hands.now c.loop-place.passes c.regain.new.passes place x is number c.regain.ensures.others c.args.passes at.there;
    }
