-- What a version of a schema has of a message: an element is there where it came with that version or an earlier one (SBE 1.0,
-- "Schema extension mechanism").
use Rattle.std.specs.Prelude.{ℕ, if◌then◌else◌, Option, Some, None, List, [], ◌∷◌}
use Rattle.sbe_value.specs.declared.item.Item.{Item}
use Rattle.sbe_value.specs.declared.datum.Datum.{Datum}
use Rattle.sbe_value.specs.declared.tree.Group.{Group}
use Rattle.sbe_value.specs.declared.tree.Group.TheVariants.{Absent, Entries}
use Rattle.sbe_value.specs.declared.tree.Block.{Block}
use Rattle.sbe_value.specs.declared.message.Message.{Message}
use Rattle.sbe_value.specs.Trees.{GroupList, BlockList, no_groups, absent, entries, no_blocks, block}
use Rattle.sbe_layout.specs.declared.items.ItemPlan.{ItemPlan}
use Rattle.sbe_layout.specs.declared.items.DataPlan.{DataPlan}
use Rattle.sbe_layout.specs.declared.blocks.BlockPlan.{BlockPlan}
use Rattle.sbe_layout.specs.declared.plan.MessagePlan.{MessagePlan}
use Rattle.sbe_layout.specs.declared.plan.Plan.{Plan}
use Rattle.sbe_layout.specs.Trees.{PlanTree, no_plans, plan}
use Rattle.sbe_layout.specs.Plans.{message_of}
use Rattle.sbe_grammar.specs.Values.{is_in}

abbrev pub kept_items : ℕ → List ItemPlan → List Item → List Item
kept_items version [] is = []
kept_items version (p ∷ ps) [] = []
kept_items version (p ∷ ps) (i ∷ is) =
    if is_in version p.since then i ∷ kept_items version ps is else kept_items version ps is

abbrev pub kept_data : ℕ → List DataPlan → List Datum → List Datum
kept_data version [] vs = []
kept_data version (d ∷ ds) [] = []
kept_data version (d ∷ ds) (v ∷ vs) =
    if is_in version d.since then v ∷ kept_data version ds vs else kept_data version ds vs

abbrev mutual
  pub kept_groups : ℕ → PlanTree → GroupList → GroupList
  kept_groups version no_plans gs = no_groups
  kept_groups version (plan head inner rest) no_groups = no_groups
  kept_groups version (plan head inner rest) (absent gs) =
      if is_in version head.since then absent (kept_groups version rest gs) else kept_groups version rest gs
  kept_groups version (plan head inner rest) (entries bs gs) =
      if is_in version head.since then entries (kept_entries version head.items inner head.vars bs) (kept_groups version rest gs)
      else kept_groups version rest gs

  -- what is kept of each entry; an entry stays
  pub kept_entries : ℕ → List ItemPlan → PlanTree → List DataPlan → BlockList → BlockList
  kept_entries version items inner vars no_blocks = no_blocks
  kept_entries version items inner vars (block is gs vs bs) =
      block (kept_items version items is) (kept_groups version inner gs) (kept_data version vars vs) (kept_entries version items inner vars bs)

abbrev pub kept_block : ℕ → BlockPlan → Block → Block
kept_block version layout b = record {
  items = kept_items version layout.items b.items;
  groups = kept_groups version layout.groups b.groups;
  vars = kept_data version layout.vars b.vars;
}

-- a message of a template that the plan lacks stays as it is
abbrev pub kept_root : ℕ → Option MessagePlan → Block → Block
kept_root version None b = b
kept_root version (Some layout) b = kept_block version layout.root b

-- the message without the items, the groups and the data that came with a later version, in entries at every depth
abbrev pub restricted : Plan → Message → ℕ → Message
restricted schema m version = record {
  template = m.template;
  root = kept_root version (message_of m.template schema.messages) m.root;
}

-- ---- one group, and the trees of groups and of entries as lists

abbrev pub kept_group : ℕ → BlockPlan → Group → Group
kept_group version layout Absent = Absent
kept_group version layout (Entries bs) = Entries (kept_entries version layout.items layout.groups layout.vars bs)

abbrev pub list_of_groups : GroupList → List Group
list_of_groups no_groups = []
list_of_groups (absent gs) = Absent ∷ list_of_groups gs
list_of_groups (entries bs gs) = Entries bs ∷ list_of_groups gs

abbrev pub list_of_blocks : BlockList → List Block
list_of_blocks no_blocks = []
list_of_blocks (block is gs vs bs) = record { items = is; groups = gs; vars = vs } ∷ list_of_blocks bs
