use Rattle.std.proofs.Common.{◌∙◌, sym, ap, int_cmp}
use Rattle.std.specs.Int.{w128}
use Rattle.std.proofs.lemmas.Int.{to_z-of_z}
use Rattle.std.specs.Cmp.{int_cmp_total}
use Rattle.std.specs.List.{list_any}
use Rattle.std.specs.Ordering.{eq_by_cmp}
use Rattle.std.specs.FinSet as set
use Rattle.sbe_schema.proofs.sets.NumberSet.contains.Goals as goal

pub returns : goal.returns
returns c =
    c.contains.ensures
    ∙ ap (λ z. list_any (eq_by_cmp int_cmp z) c.self.inside.inner.keys) (to_z-of_z w128 c.args.number c.ranges.number)
    ∙ sym (set.contains-from_list int_cmp_total c.self.inside.inner.keys c.args.number) ∙ ap (λ s. set.contains s c.args.number) c.self.view_is
