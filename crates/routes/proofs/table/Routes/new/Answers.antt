-- One more identifier is kept, or it stands before its place.
use Rattle.std.proofs.Common.{◌≡◌, ◌<◌, length, refl, sym, subst, arith}
use Rattle.std.proofs.lemmas.Option.{slice_get-get_or}
use Rattle.routes.specs.Identifiers.{EachOnce, IsFirstRepeated}
use Rattle.routes.proofs.Adding.{first_repeated, kept_more, once_more}
use Rattle.routes.proofs.table.Routes.new.Goals as goal

pub returns-in-Ok-false-clause-doubled : goal.returns-in-Ok-false-clause-doubled
returns-in-Ok-false-clause-doubled c = λ place e.
    let same : c.loop-place.place ≡ place = cc e in
    let within : c.loop-place.place < length c.args.ids.now = omega (arith, c.loop-place-test.true, c.loop-place.auto.place-end) in
    let known = (rw c.in-Ok-false.field-0-test at c.in-Ok-false.ensures.known) refl in
    subst (IsFirstRepeated c.args.ids.now) same (first_repeated c.args.ids.now c.loop-place.kept.items _ c.loop-place.place known.0 c.loop-place.invariant.0 c.loop-place.invariant.2 (slice_get-get_or c.args.ids.now c.loop-place.place _ within) known.1)

pub loop-place-preserved : goal.loop-place-preserved
loop-place-preserved c =
    let within : c.loop-place.place < length c.args.ids.now = omega (arith, c.loop-place-test.true, c.loop-place.auto.place-end) in
    let added = (rw c.in-Ok-true.field-0-test at c.in-Ok-true.ensures.added) refl in
    let sorted = (rw c.in-Ok-true.field-0-test at c.in-Ok-true.ensures.sorted) refl in
    let fresh = (rw c.in-Ok-true.field-0-test at c.in-Ok-true.ensures.fresh) refl in (
      kept_more c.args.ids.now c.loop-place.kept.items _ c.loop-place.place _ c.loop-place.invariant.0 within added,
      sorted,
      subst EachOnce (sym added) (once_more c.loop-place.kept.items _ c.loop-place.invariant.2 fresh),
    )
