use Rattle.std.proofs.Common.{◌∙◌, ap}
use Rattle.std.specs.Cmp.Lexicographic.{nat_list_cmp_total}
use Rattle.std.specs.FinSet as set
use Rattle.sbe_schema.proofs.KeySets.{from_list-insert_key}
use Rattle.sbe_schema.proofs.sets.NameSet.insert.Goals as goal

pub returns : goal.returns
returns c =
    ap set.from_list c.in_ok-insert.ensures.keys
    ∙ from_list-insert_key nat_list_cmp_total (set.slice_cmp-IsAntisymmetric set.nat_cmp-IsAntisymmetric) c.self.inside.inner.keys c.in_ok-copy.field-0
    ∙ (λ i. set.insert (c.self.view_is i) (c.in_ok-copy.ensures i))
