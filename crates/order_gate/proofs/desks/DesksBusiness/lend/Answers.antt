use Rattle.std.proofs.Common.{◌≡◌, ◌+◌, ◌<◌, length, slice_index_or, None, refl, sym, ap, ◌∙◌, subst, arith}
use Rattle.std.specs.Vec.{with_items}
use Rattle.order_gate.specs.Desks.{HasNumber}
use Rattle.order_gate.proofs.Lending.{number_there, all_lent, known_lent, long_of, each_of, lent_of, others_of, own_still, behind_still, behind_back, lacks_them}
use Rattle.order_gate.proofs.desks.DesksBusiness.lend.Goals as goal

pub passes_of_all-requires : goal.passes_of_all-requires
passes_of_all-requires g c = (
  omega arith,
  λ i h few.
      let same = c.as_mut_slice.ensures.value in
      let count = ap length same in
      subst (λ xs. HasNumber (i + 1) (slice_index_or xs i h)) (sym same) (number_there c.requires.own.0 c.args.self.now c.requires.own.1 i h (omega (arith, few, count))),
)

pub returns-clause-these : goal.returns-clause-these
returns-clause-these g c = λ lock has.
    let d = c.args.self.now in
    let e = c.passes_of_all.ensures in
    all_lent lock d has c.passes_of_all.result (lent_of d c.as_mut_slice.result.now c.passes_of_all.new.hands c.as_mut_slice.ensures.value e.long (λ _. None) e.each c.passes_of_all.result e.passes)
    (others_of d c.as_mut_slice.result.now c.passes_of_all.new.hands c.as_mut_slice.ensures.value e.long (λ _. None) e.each c.passes_of_all.result e.others)

pub returns-clause-known : goal.returns-clause-known
returns-clause-known g c = λ lock has n inside.
    let d = c.args.self.now in
    let e = c.passes_of_all.ensures in
    known_lent lock d has c.passes_of_all.result (lent_of d c.as_mut_slice.result.now c.passes_of_all.new.hands c.as_mut_slice.ensures.value e.long (λ _. None) e.each c.passes_of_all.result e.passes) n inside

pub returns-clause-own : goal.returns-clause-own
returns-clause-own g c =
    let d = c.args.self.now in
    let xs = c.passes_of_all.new.hands in
    let e = c.passes_of_all.ensures in
    let given = c.as_mut_slice.result.now in
    let same = c.as_mut_slice.ensures.value in
    (own_still d (record d { hands = with_items d.hands xs }) refl refl refl refl refl (λ _. None) (long_of d given xs same e.long (λ _. None) e.each) (each_of d given xs same e.long (λ _. None) e.each), refl)

pub returns-clause-lent : goal.returns-clause-lent
returns-clause-lent g c = λ lock has.
    let d = c.args.self.now in
    let xs = c.passes_of_all.new.hands in
    let e = c.passes_of_all.ensures in
    let given = c.as_mut_slice.result.now in
    let same = c.as_mut_slice.ensures.value in
    lacks_them d (record d { hands = with_items d.hands xs }) refl refl refl refl refl (λ _. None) (long_of d given xs same e.long (λ _. None) e.each) (each_of d given xs same e.long (λ _. None) e.each) has.hands (λ _. refl)

pub returns-clause-stands : goal.returns-clause-stands
returns-clause-stands g c = λ l.
    let d = c.args.self.now in
    let xs = c.passes_of_all.new.hands in
    let e = c.passes_of_all.ensures in
    let given = c.as_mut_slice.result.now in
    let same = c.as_mut_slice.ensures.value in
    let long = long_of d given xs same e.long (λ _. None) e.each in
    let each = each_of d given xs same e.long (λ _. None) e.each in (
      λ st. behind_back d (record d { hands = with_items d.hands xs }) refl refl refl refl refl (λ _. None) long each c.requires.own.1.hands l st,
      λ st. behind_still d (record d { hands = with_items d.hands xs }) refl refl refl refl refl (λ _. None) long each c.requires.own.1.hands l st,
    )
