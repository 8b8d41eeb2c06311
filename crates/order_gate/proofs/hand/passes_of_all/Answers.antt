use Rattle.std.proofs.Common.{rules, ◌≡◌, ◌+◌, ◌<◌, length, slice_index_or, sym, ap, ◌∙◌, subst, arith}
use Rattle.order_gate.specs.declared.hand.Hand.{Hand}
use Rattle.order_gate.specs.Desks.{HasNumber, without_pass}
use Rattle.order_gate.specs.Standing.{at_place}
use Rattle.order_gate.proofs.Places.{one_more, left_more}
use Rattle.order_gate.proofs.Lending.{one_lent, rest_empty}
use Rattle.order_gate.proofs.hand.passes_of_all.Goals as goal

pub lend-requires : goal.lend-requires
lend-requires g c =
    let at = c.loop-place.invariant in
    let place = c.loop-place.place in
    let few : place < length c.args.hands.now = omega (arith, c.loop-place-test.true) in
    let d = c.index-hands-place.result in
    let x = slice_index_or c.loop-place.hands place d in
    let n : HasNumber (place + 1) x = subst (λ h. HasNumber (place + 1) h) (sym (at.left place d (omega arith))) (c.requires.numbered place d few) in
    let number = n.number in
    (omega arith, (subst (λ k. HasNumber k x) (sym number) n, at.others x.desk.number (λ i. let up_to = i.up_to in omega (arith, number, up_to))))

pub loop-place-preserved : goal.loop-place-preserved
loop-place-preserved g c =
    let at = c.loop-place.invariant in
    let place = c.loop-place.place in
    let few : place < length c.args.hands.now = omega (arith, c.loop-place-test.true) in
    let it = at_place c.args.hands.now place few in
    let d = c.index-hands-place.result in
    let x = slice_index_or c.loop-place.hands place d in
    let is : (h : Hand _ _ _) → slice_index_or c.args.hands.now place h ≡ x = λ h. it.at h ∙ sym (at.left place d (omega arith) ∙ it.at d) in
    let number : x.desk.number ≡ place + 1 = subst (λ (h : Hand _ _ _). h.desk.number ≡ place + 1) (sym (at.left place d (omega arith))) (c.requires.numbered place d few).number in
    record {
      long = search rules;
      taken = one_more c.args.hands.now c.loop-place.hands place c.lend.new.self (omega (arith, few, at.long)) (λ h k i. k ≡ without_pass h) at.taken (λ h. c.lend.ensures.lent ∙ ap (λ (z : Hand _ _ _). without_pass z) (sym (is h)));
      left = left_more c.args.hands.now c.loop-place.hands place c.lend.new.self (omega (arith, few, at.long)) at.left;
      passes = one_lent c.args.hands.now c.loop-place.passes c.lend.new.passes place x is number c.lend.ensures.others at.passes c.lend.ensures.there;
      others = rest_empty c.args.hands.now c.loop-place.passes c.lend.new.passes place x is number c.lend.ensures.others at.others;
    }
