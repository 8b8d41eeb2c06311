use Rattle.std.proofs.Common.{◌≡◌, ◌+◌, ◌<◌, List, length, slice_index_or, refl, sym, ap, ◌∙◌, subst, arith}
use Rattle.std.specs.Vec.{with_items}
use Rattle.gate_turn.specs.Listed.{pass_at}
use Rattle.order_gate.specs.declared.hand.Hand.{Hand}
use Rattle.order_gate.proofs.Lending.{long_of, each_of, behind_still, part_given, given_all}
use Rattle.order_gate.proofs.desks.DesksBusiness.regain.Goals as goal

pub give_to_all-requires : goal.give_to_all-requires
give_to_all-requires g c = (
  omega arith,
  λ i h few.
      let same = c.as_mut_slice.ensures.value in
      let count = ap length same in
      let has = c.requires.lent.hands in
      let long = has.long in
      ap (λ (xs : List (Hand _ _ _)). (slice_index_or xs i h).desk.number) same ∙ (has.each i h (omega (arith, few, count, long))).number,
)

pub returns-clause-own : goal.returns-clause-own
returns-clause-own g c = λ lock these.
    let d = c.args.self.now in
    let xs = c.give_to_all.new.hands in
    let e = c.give_to_all.ensures in
    let given = c.as_mut_slice.result.now in
    let same = c.as_mut_slice.ensures.value in
    given_all d (record d { hands = with_items d.hands xs }) refl refl refl refl refl c.args.passes (long_of d given xs same e.long (λ i. pass_at c.args.passes (i + 1)) e.each) (each_of d given xs same e.long (λ i. pass_at c.args.passes (i + 1)) e.each)
    c.requires.lent.hands lock these c.requires.again c.requires.met

pub returns-clause-known : goal.returns-clause-known
returns-clause-known g c = λ n inside.
    let d = c.args.self.now in
    let xs = c.give_to_all.new.hands in
    let e = c.give_to_all.ensures in
    let given = c.as_mut_slice.result.now in
    let same = c.as_mut_slice.ensures.value in
    part_given d (record d { hands = with_items d.hands xs }) refl refl refl refl refl c.args.passes (long_of d given xs same e.long (λ i. pass_at c.args.passes (i + 1)) e.each) (each_of d given xs same e.long (λ i. pass_at c.args.passes (i + 1)) e.each)
    c.requires.lent.hands n inside

pub returns-clause-stands : goal.returns-clause-stands
returns-clause-stands g c = λ l st.
    let d = c.args.self.now in
    let xs = c.give_to_all.new.hands in
    let e = c.give_to_all.ensures in
    let given = c.as_mut_slice.result.now in
    let same = c.as_mut_slice.ensures.value in
    behind_still d (record d { hands = with_items d.hands xs }) refl refl refl refl refl (λ i. pass_at c.args.passes (i + 1)) (long_of d given xs same e.long (λ i. pass_at c.args.passes (i + 1)) e.each)
    (each_of d given xs same e.long (λ i. pass_at c.args.passes (i + 1)) e.each) c.requires.lent.hands l st
