use Rattle.std.proofs.Common.{◌≡◌, ◌+◌, ◌<◌, length, slice_index_or, None, sym, ap, subst, arith}
use Rattle.order_gate.specs.Desks.{HasNumber}
use Rattle.order_gate.proofs.Lending.{number_there, all_lent, known_lent, lent_of, others_of}
use Rattle.order_gate.proofs.desks.DesksBusiness.end.Goals as goal

pub passes_of_all-requires : goal.passes_of_all-requires
passes_of_all-requires g c = (
  omega arith,
  λ i h few.
      let same = c.as_mut_slice.ensures.value in
      let count = ap length same in
      subst (λ xs. HasNumber (i + 1) (slice_index_or xs i h)) (sym same) (number_there c.requires.own.0 c.args.self c.requires.own.1 i h (omega (arith, few, count))),
)

pub returns-clause-these : goal.returns-clause-these
returns-clause-these g c = λ lock has.
    let d = c.args.self in
    let e = c.passes_of_all.ensures in
    all_lent lock d has c.passes_of_all.result (lent_of d c.as_mut_slice.result.now c.passes_of_all.new.hands c.as_mut_slice.ensures.value e.long (λ _. None) e.each c.passes_of_all.result e.passes)
    (others_of d c.as_mut_slice.result.now c.passes_of_all.new.hands c.as_mut_slice.ensures.value e.long (λ _. None) e.each c.passes_of_all.result e.others)

pub returns-clause-known : goal.returns-clause-known
returns-clause-known g c = λ lock has n inside.
    let d = c.args.self in
    let e = c.passes_of_all.ensures in
    known_lent lock d has c.passes_of_all.result (lent_of d c.as_mut_slice.result.now c.passes_of_all.new.hands c.as_mut_slice.ensures.value e.long (λ _. None) e.each c.passes_of_all.result e.passes) n inside
