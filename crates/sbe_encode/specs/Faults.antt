-- The first fault of a message that may not be written (this project's profile): the elements are walked once in schema
-- order. A block's numbers of items, groups and data come before its elements; a shape comes before a range.
use Rattle.std.specs.Prelude.{ℕ, ◌+◌, nat_lt, pos, Bool, not, ◌&&◌, ◌==◌, if◌then◌else◌, Option, Some, None, List, [], ◌∷◌, length}
use Rattle.sbe_prim.specs.declared.Primitive.TheVariants.{UInt16}
use Rattle.sbe_value.specs.declared.item.Item.{Item}
use Rattle.sbe_value.specs.declared.datum.Datum.{Datum}
use Rattle.sbe_value.specs.declared.datum.Datum.TheVariants as datum
use Rattle.sbe_value.specs.declared.path.Step.TheVariants.{Key, At}
use Rattle.sbe_value.specs.declared.message.Message.{Message}
use Rattle.sbe_value.specs.Trees.{GroupList, BlockList, no_groups, absent, entries, no_blocks, block, count_of_blocks, count_of_groups}
use Rattle.sbe_layout.specs.declared.items.ItemPlan.{ItemPlan}
use Rattle.sbe_layout.specs.declared.items.DataPlan.{DataPlan}
use Rattle.sbe_layout.specs.declared.listings.Listing.{Listing}
use Rattle.sbe_layout.specs.declared.plan.MessagePlan.{MessagePlan}
use Rattle.sbe_layout.specs.declared.plan.Plan.{Plan}
use Rattle.sbe_layout.specs.Trees.{PlanHead, PlanTree, no_plans, plan}
use Rattle.sbe_layout.specs.Plans.{message_of}
use Rattle.sbe_grammar.specs.Fits.{form_of, has_form}
use Rattle.sbe_grammar.specs.Canonical.{is_absent, is_admitted, can_write, holds_dimension, canonical}
use Rattle.sbe_encode.specs.declared.fault.EncodeFault.{EncodeFault}
use Rattle.sbe_encode.specs.declared.fault.EncodeFault.TheVariants.{Shape, Range, TooLong}

-- the first of two
abbrev pub or_else : Option EncodeFault → Option EncodeFault → Option EncodeFault
or_else None b = b
or_else (Some f) b = Some f

-- an element of a block is of another shape
abbrev pub shape_of : List ℕ → Option EncodeFault
shape_of name = Some (Shape (Key name ∷ []))

-- an item is there, and of its form
abbrev pub is_shaped : ItemPlan → Item → Bool
is_shaped p i = not (is_absent i) && has_form (form_of p) i

abbrev pub item_fault : List Listing → ItemPlan → Item → Option EncodeFault
item_fault listings p i =
    if not (is_shaped p i) then shape_of p.name
    else (if not (is_admitted listings p.kind i) then Some (Range (Key p.name ∷ [])) else None)

abbrev pub items_fault : List Listing → List ItemPlan → List Item → Option EncodeFault
items_fault listings [] is = None
items_fault listings (p ∷ ps) [] = None
items_fault listings (p ∷ ps) (i ∷ is) = or_else (item_fault listings p i) (items_fault listings ps is)

-- the length of data is one that its type holds
abbrev pub datum_fault : DataPlan → Datum → Option EncodeFault
datum_fault d datum.Absent = shape_of d.name
datum_fault d (datum.Present text) = if not (can_write d.length (pos (length text))) then shape_of d.name else None

abbrev pub data_fault : List DataPlan → List Datum → Option EncodeFault
data_fault [] vs = None
data_fault (d ∷ ds) [] = None
data_fault (d ∷ ds) (v ∷ vs) = or_else (datum_fault d v) (data_fault ds vs)

-- the fault of an element of an entry, by the block that has the group
abbrev pub fault_under : List ℕ → ℕ → EncodeFault → EncodeFault
fault_under name at (Shape path) = Shape (Key name ∷ (At at ∷ path))
fault_under name at (Range path) = Range (Key name ∷ (At at ∷ path))
fault_under name at (TooLong length) = TooLong length

abbrev pub under : List ℕ → ℕ → Option EncodeFault → Option EncodeFault
under name at None = None
under name at (Some f) = Some (fault_under name at f)

-- a block has as many items, groups and data as its plan
abbrev pub count_of_plans : PlanTree → ℕ
count_of_plans no_plans = 0
count_of_plans (plan head inner rest) = 1 + count_of_plans rest

abbrev pub has_counts : List ItemPlan → PlanTree → List DataPlan → List Item → GroupList → List Datum → Bool
has_counts ps inner ds items gs vars = length items == length ps && (count_of_groups gs == count_of_plans inner && length vars == length ds)

-- the first fault of a block, given those of its items, its groups and its data
abbrev pub first_fault : Bool → Option EncodeFault → Option EncodeFault → Option EncodeFault → Option EncodeFault
first_fault counted items groups vars = if not counted then Some (Shape []) else or_else items (or_else groups vars)

-- the first fault of a group, given that of its entries
abbrev pub entered_fault : PlanHead → ℕ → Option EncodeFault → Option EncodeFault
entered_fault head n inside = if not (holds_dimension head n) then shape_of head.name else inside

abbrev mutual
  pub groups_fault : List Listing → PlanTree → GroupList → Option EncodeFault
  groups_fault listings no_plans no_groups = None
  groups_fault listings no_plans (absent gs) = None
  groups_fault listings no_plans (entries bs gs) = None
  groups_fault listings (plan head inner rest) no_groups = None
  groups_fault listings (plan head inner rest) (absent gs) = shape_of head.name
  groups_fault listings (plan head inner rest) (entries bs gs) =
      or_else (entered_fault head (count_of_blocks bs) (entries_fault listings head inner 0 bs)) (groups_fault listings rest gs)

  -- of entries that are counted from `at`
  pub entries_fault : List Listing → PlanHead → PlanTree → ℕ → BlockList → Option EncodeFault
  entries_fault listings head inner at no_blocks = None
  entries_fault listings head inner at (block items gs vars bs) =
      or_else (under head.name at (first_fault (has_counts head.items inner head.vars items gs vars) (items_fault listings head.items items)
      (groups_fault listings inner gs) (data_fault head.vars vars))) (entries_fault listings head inner (at + 1) bs)

-- a root block that the header cannot tell has the empty path; that of a legal plan it tells
abbrev pub header_fault : MessagePlan → Option EncodeFault
header_fault layout = if not (can_write UInt16 (pos layout.root.block_length)) then Some (Shape []) else None

-- the first fault of a message that has a layout, its length aside
abbrev pub layout_fault : List Listing → MessagePlan → Message → Option EncodeFault
layout_fault listings layout m =
    or_else (header_fault layout) (first_fault (has_counts layout.root.items layout.root.groups layout.root.vars m.root.items m.root.groups m.root.vars)
    (items_fault listings layout.root.items m.root.items) (groups_fault listings layout.root.groups m.root.groups)
    (data_fault layout.root.vars m.root.vars))

abbrev pub length_fault : ℕ → Option EncodeFault
length_fault n = if nat_lt 16384 n then Some (TooLong n) else None

abbrev pub fault_by : Plan → Option MessagePlan → Message → Option EncodeFault
fault_by schema None m = Some (Shape [])
fault_by schema (Some layout) m = or_else (layout_fault schema.listings layout m) (length_fault (length (canonical schema m)))

-- the first fault of a message
abbrev pub encode_fault : Plan → Message → Option EncodeFault
encode_fault schema m = fault_by schema (message_of m.template schema.messages) m
