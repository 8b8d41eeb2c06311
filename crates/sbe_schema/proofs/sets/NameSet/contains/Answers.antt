use Rattle.std.proofs.Common.{◌∙◌, sym, ap}
use Rattle.std.specs.Cmp.Lexicographic.{nat_list_cmp_total}
use Rattle.std.specs.FinSet as set
use Rattle.sbe_schema.proofs.sets.NameSet.contains.Goals as goal

pub returns : goal.returns
returns c =
    c.contains.ensures ∙ sym (set.contains-from_list nat_list_cmp_total c.self.inside.inner.keys c.args.name.now) ∙ ap (λ s. set.contains s c.args.name.now) c.self.view_is
