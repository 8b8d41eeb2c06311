-- The bytes and the first fault of a block with its groups and data, and of one group: the parts of which the definitions
-- of a whole message are made.
use Rattle.std.specs.Prelude.{ℕ, Option, List, [], ◌++◌}
use Rattle.sbe_prim.specs.declared.Order.{Order}
use Rattle.sbe_value.specs.declared.tree.Block.{Block}
use Rattle.sbe_value.specs.declared.tree.Group.{Group}
use Rattle.sbe_value.specs.declared.tree.Group.TheVariants.{Absent, Entries}
use Rattle.sbe_value.specs.Trees.{count_of_blocks}
use Rattle.sbe_layout.specs.declared.blocks.BlockPlan.{BlockPlan}
use Rattle.sbe_layout.specs.declared.listings.Listing.{Listing}
use Rattle.sbe_layout.specs.Trees.{PlanHead, PlanTree}
use Rattle.sbe_grammar.specs.Canonical.{count_bytes, block_bytes, groups_bytes, entries_bytes, data_bytes}
use Rattle.sbe_encode.specs.declared.fault.EncodeFault.{EncodeFault}
use Rattle.sbe_encode.specs.Faults.{shape_of, has_counts, first_fault, entered_fault, items_fault, groups_fault, entries_fault, data_fault}

abbrev pub parts_bytes : Order → BlockPlan → Block → List ℕ
parts_bytes order plan b =
    block_bytes order plan.block_length 0 plan.items b.items ++ (groups_bytes order plan.groups b.groups ++ data_bytes order plan.vars b.vars)

abbrev pub parts_fault : List Listing → BlockPlan → Block → Option EncodeFault
parts_fault listings plan b =
    first_fault (has_counts plan.items plan.groups plan.vars b.items b.groups b.vars) (items_fault listings plan.items b.items)
    (groups_fault listings plan.groups b.groups) (data_fault plan.vars b.vars)

abbrev pub dimension_bytes : Order → PlanHead → ℕ → List ℕ
dimension_bytes order head n = count_bytes order head.block_prim head.block_length ++ count_bytes order head.count_prim n

abbrev pub group_bytes : Order → PlanHead → PlanTree → Group → List ℕ
group_bytes order head inner Absent = []
group_bytes order head inner (Entries bs) = dimension_bytes order head (count_of_blocks bs) ++ entries_bytes order head inner bs

abbrev pub group_fault : List Listing → PlanHead → PlanTree → Group → Option EncodeFault
group_fault listings head inner Absent = shape_of head.name
group_fault listings head inner (Entries bs) =
    entered_fault head (count_of_blocks bs) (entries_fault listings head inner 0 bs)
