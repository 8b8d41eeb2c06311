-- The groups of an entry weigh less than the groups among which their group stands.
use Rattle.std.proofs.Common.{◌≡◌, ℕ, zero, suc, ◌<◌, ap, List, [], ◌∷◌, length, get_or, arith}
use Rattle.sbe_layout.specs.declared.blocks.GroupPlan.{GroupPlan}
use Rattle.sbe_layout.specs.Trees.{weight_of}
use Rattle.sbe_layout.specs.Views.{plans_of}

pub weight_at : (gs : List GroupPlan) (i : ℕ) (g : GroupPlan) → i < length gs → g ≡ get_or gs i g → weight_of g.block.groups < weight_of (plans_of gs)
weight_at [] i g h e = absurd (omega arith)
weight_at (x ∷ xs) zero g h e = let w = ap (λ (y : GroupPlan). weight_of y.block.groups) e in omega arith
weight_at (x ∷ xs) (suc i) g h e = let w : weight_of g.block.groups < weight_of (plans_of xs) = weight_at xs i g (omega arith) e in omega arith
