use Rattle.std.proofs.Common.{rules, ◌≡◌, ◌+◌, ◌-◌, [], ◌∷◌, refl, ap, ◌∙◌, subst, arith}
use Rattle.gate_turn.specs.Views.{Account, new_part}
use Rattle.gate_turn.specs.Calls.{opened_with}
use Rattle.gate_turn.proofs.Making.{Making, splits_new, left_of, right_of, view_of, slot_of, new_pass, makes_one, makes_all}
use Rattle.gate_turn.proofs.lock.TurnLock.make_passes.Goals as goal

pub split_seat-seat-requires : goal.split_seat-seat-requires
split_seat-seat-requires g c = let i = c.loop-number.invariant in (i.own, search rules, splits_new g.T.Logged.tells _ _ _ _ _ i.view (omega (arith, c.requires.count.1)))

pub loop-number-preserved : goal.loop-number-preserved
loop-number-preserved g c =
    let a : Account = g.T.Logged.tells (opened_with c.args.self.now) in
    let made = c.loop-number.number - 1 in
    let new = new_pass c.args.self.now c.of.result c.split_seat-seat.result (new_part c.loop-number.number 0 a) c.of.ensures.seat
    (c.split_seat-seat.ensures.3 ∙ c.loop-number.invariant.own)
    (right_of c.loop-number.first.me.0 _ made c.loop-number.number a (view_of _ _ c.split_seat-seat.ensures.4) c.loop-number.invariant.view (omega (arith, c.loop-number.auto.number)))
    (slot_of _ _ c.split_seat-seat.ensures.4) refl refl in
    record {
      own = c.split_seat-seat.ensures.0 ∙ c.loop-number.invariant.own;
      view = left_of c.loop-number.first.me.0 _ made _ a (view_of _ _ c.split_seat-seat.ensures.2) c.loop-number.invariant.view (omega (arith, c.loop-number.auto.number));
      slot = slot_of _ _ c.split_seat-seat.ensures.2 ∙ c.loop-number.invariant.slot;
      made = makes_one c.args.self.now a c.loop-number.list c.give.new.self c.loop-number.number c.of.result c.loop-number.invariant.made c.loop-number.auto.number c.of.ensures.number
          new.0 new.1 new.2 c.give.ensures.there c.give.ensures.others;
    }

pub returns : goal.returns
returns g c =
    let a : Account = g.T.Logged.tells (opened_with c.args.self.now) in
    let number : c.loop-number.number ≡ c.args.passes + 1 = omega (arith, c.loop-number-test.false, c.loop-number.auto.number-end, c.requires.count.0) in
    let new = new_pass c.args.self.now c.of-2.result c.loop-number.first (new_part 1 c.args.passes a) c.of-2.ensures.seat c.loop-number.invariant.own
    (c.loop-number.invariant.view ∙ ap (λ k. new_part 1 k a ∷ []) (omega (arith, number))) c.loop-number.invariant.slot refl refl in
    record {
      made = makes_all c.args.self.now a c.loop-number.list c.give-2.new.self c.args.passes c.of-2.result (subst (Making c.args.self.now a c.loop-number.list) number c.loop-number.invariant.made)
          c.requires.count.0 c.of-2.ensures.number new.0 new.1 new.2 c.give-2.ensures.there c.give-2.ensures.others;
    }
