use Rattle.std.proofs.Common.{rules, ◌<◌, length, slice_index_or, sym, ◌∙◌, subst, arith}
use Rattle.gate_staff.specs.Business.{lock_of}
use Rattle.order_gate.specs.Desks.{IsSeated, Counted}
use Rattle.order_gate.specs.Standing.{at_place}
use Rattle.order_gate.proofs.Places.{one_more, left_more}
use Rattle.order_gate.proofs.hand.count_each.Goals as goal

pub count-requires : goal.count-requires
count-requires g c =
    let few : c.loop-place.place < length c.args.hands.now = omega (arith, c.loop-place-test.true) in
    record {
      seated = subst (λ h. IsSeated (lock_of c.args.gate.now) h.desk) (sym (c.loop-place.invariant.left c.loop-place.place c.index-hands-place.result (omega arith)))
          (c.requires.seated c.loop-place.place c.index-hands-place.result few);
    }

pub loop-place-preserved : goal.loop-place-preserved
loop-place-preserved g c =
    let at = c.loop-place.invariant in
    let few : c.loop-place.place < length c.args.hands.now = omega (arith, c.loop-place-test.true) in
    let x = at_place c.args.hands.now c.loop-place.place few in
    let d = c.index-hands-place.result in
    let was = at.left c.loop-place.place d (omega arith) ∙ x.at d in
    record {
      long = search rules;
      counted = one_more c.args.hands.now c.loop-place.hands c.loop-place.place c.count.new.self (omega (arith, few, at.long)) (λ h k i. Counted (lock_of c.args.gate.now) h k) at.counted
          (λ h. subst (λ z. Counted (lock_of c.args.gate.now) z c.count.new.self) (was ∙ sym (x.at h)) c.count.ensures.counted);
      left = left_more c.args.hands.now c.loop-place.hands c.loop-place.place c.count.new.self (omega (arith, few, at.long)) at.left;
    }
