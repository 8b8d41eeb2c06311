-- Which elements of a message are absent where it is of some version: those that came with a later one, and no others (SBE
-- 1.0, "Schema extension mechanism"). The length of a block does not matter.
use Rattle.std.specs.Prelude.{◌≡◌, ⊤, ℕ, Bool, true, false, not, List, [], ◌∷◌}
use Rattle.sbe_value.specs.declared.item.Item.{Item}
use Rattle.sbe_value.specs.declared.datum.Datum.{Datum}
use Rattle.sbe_value.specs.declared.datum.Datum.TheVariants as datum
use Rattle.sbe_value.specs.declared.tree.Block.{Block}
use Rattle.sbe_value.specs.Trees.{GroupList, BlockList, no_groups, absent, entries, no_blocks, block}
use Rattle.sbe_layout.specs.declared.items.ItemPlan.{ItemPlan}
use Rattle.sbe_layout.specs.declared.items.DataPlan.{DataPlan}
use Rattle.sbe_layout.specs.declared.blocks.BlockPlan.{BlockPlan}
use Rattle.sbe_layout.specs.Trees.{PlanHead, PlanTree, no_plans, plan}
use Rattle.sbe_grammar.specs.Values.{is_in}
use Rattle.sbe_grammar.specs.Canonical.{is_absent}

abbrev pub is_absent_datum : Datum → Bool
is_absent_datum datum.Absent = true
is_absent_datum (datum.Present t) = false

-- each item is absent exactly where it came later
abbrev pub LaterItems : ℕ → List ItemPlan → List Item → Type 0
LaterItems version [] [] = ⊤
LaterItems version [] (i ∷ is) = ⊥
LaterItems version (p ∷ ps) [] = ⊥
LaterItems version (p ∷ ps) (i ∷ is) = (is_absent i ≡ not (is_in version p.since)) × LaterItems version ps is

-- and each of the data
abbrev pub LaterData : ℕ → List DataPlan → List Datum → Type 0
LaterData version [] [] = ⊤
LaterData version [] (v ∷ vs) = ⊥
LaterData version (d ∷ ds) [] = ⊥
LaterData version (d ∷ ds) (v ∷ vs) = (is_absent_datum v ≡ not (is_in version d.since)) × LaterData version ds vs

abbrev mutual
  -- and each group; of one that is there, the same holds in its entries
  pub LaterGroups : ℕ → PlanTree → GroupList → Type 0
  LaterGroups version no_plans no_groups = ⊤
  LaterGroups version no_plans (absent gs) = ⊥
  LaterGroups version no_plans (entries bs gs) = ⊥
  LaterGroups version (plan head inner rest) no_groups = ⊥
  LaterGroups version (plan head inner rest) (absent gs) = (true ≡ not (is_in version head.since)) × LaterGroups version rest gs
  LaterGroups version (plan head inner rest) (entries bs gs) =
      (false ≡ not (is_in version head.since)) × LaterEntries version head inner bs × LaterGroups version rest gs

  pub LaterEntries : ℕ → PlanHead → PlanTree → BlockList → Type 0
  LaterEntries version head inner no_blocks = ⊤
  LaterEntries version head inner (block is gs vs bs) =
      LaterItems version head.items is × LaterGroups version inner gs × LaterData version head.vars vs × LaterEntries version head inner bs

-- of a root block: exactly its later elements are absent
pub record LaterAreAbsent (version : ℕ) (layout : BlockPlan) (b : Block) : Type 0 where
  pub items : LaterItems version layout.items b.items
  pub groups : LaterGroups version layout.groups b.groups
  pub vars : LaterData version layout.vars b.vars
