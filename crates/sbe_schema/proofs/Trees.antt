-- The groups of an entry weigh less than the list that their group stands in.
use Rattle.std.proofs.Common.{◌≡◌, ℕ, zero, suc, ◌<◌, ap, List, [], ◌∷◌, length, get_or, arith}
use Rattle.schema_types.specs.declared.groups.GroupDef.{GroupDef}
use Rattle.schema_types.specs.Groups.{weight_of}
use Rattle.schema_types.specs.Views.{groups_of}

pub weight_at : (gs : List GroupDef) (i : ℕ) (g : GroupDef) → i < length gs → g ≡ get_or gs i g → weight_of g.groups < weight_of (groups_of gs)
weight_at [] i g h e = absurd (omega arith)
weight_at (x ∷ xs) zero g h e = let w = ap (λ (y : GroupDef). weight_of y.groups) e in omega arith
weight_at (x ∷ xs) (suc i) g h e = let w : weight_of g.groups < weight_of (groups_of xs) = weight_at xs i g (omega arith) e in omega arith
