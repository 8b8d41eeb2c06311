use Rattle.std.proofs.Common.{◌∙◌, ap, int_cmp}
use Rattle.std.specs.Int.{w128}
use Rattle.std.proofs.lemmas.Int.{to_z-of_z}
use Rattle.std.specs.Cmp.{int_cmp_total}
use Rattle.std.specs.BTreeSet.{insert_key}
use Rattle.std.specs.FinSet as set
use Rattle.sbe_schema.proofs.KeySets.{from_list-insert_key}
use Rattle.sbe_schema.proofs.sets.NumberSet.insert.Goals as goal

pub returns : goal.returns
returns c =
    ap set.from_list c.in_ok-insert.ensures.keys
    ∙ ap (λ z. set.from_list (insert_key int_cmp c.self.inside.inner.keys z)) (to_z-of_z w128 c.args.number c.ranges.number)
    ∙ from_list-insert_key int_cmp_total set.int_cmp-IsAntisymmetric c.self.inside.inner.keys c.args.number
    ∙ ap (λ s. set.insert s c.args.number) c.self.view_is
