-- The canonical encoding of a message at the version of its plan, and which messages may be written (SBE 1.0, "Message
-- structure", "Field encoding", "Fixed-length data", "Block length", "Repeating groups", "Variable-length data").
use Rattle.std.specs.Prelude.{◌≡◌, ℕ, ◌+◌, ◌-◌, ◌/◌, ◌%◌, ◌^◌, max, ℤ, pos, negsuc, Bool, true, false, not, ◌&&◌, ◌==◌, if◌then◌else◌, IsTrue, Option, Some, None, List, [], ◌∷◌, ◌++◌, length, replicate, slice_get}
use Rattle.std.specs.Ordering.{int_eq}
use Rattle.std.specs.List.{list_any, list_all}
use Rattle.sbe_prim.specs.declared.Primitive.{Primitive}
use Rattle.sbe_prim.specs.declared.Primitive.TheVariants.{UInt16}
use Rattle.sbe_prim.specs.declared.Order.{Order}
use Rattle.sbe_prim.specs.Primitives.{is_integer, holds, lies_within, null_of}
use Rattle.sbe_prim.specs.Numbers.{bytes_of}
use Rattle.sbe_prim.specs.Ranges.{default_least_of, default_greatest_of}
use Rattle.schema_types.specs.declared.types.BitDef.{BitDef}
use Rattle.sbe_value.specs.declared.item.Item.{Item}
use Rattle.sbe_value.specs.declared.item.Item.TheVariants.{Num, Null, Absent, Text, Raw}
use Rattle.sbe_value.specs.declared.datum.Datum.{Datum}
use Rattle.sbe_value.specs.declared.datum.Datum.TheVariants as datum
use Rattle.sbe_value.specs.declared.message.Message.{Message}
use Rattle.sbe_value.specs.Trees.{GroupList, BlockList, no_groups, absent, entries, no_blocks, block, count_of_blocks}
use Rattle.sbe_layout.specs.declared.items.ItemKind.{ItemKind}
use Rattle.sbe_layout.specs.declared.items.ItemKind.TheVariants.{Number, Enum, Set}
use Rattle.sbe_layout.specs.declared.items.ItemPlan.{ItemPlan}
use Rattle.sbe_layout.specs.declared.items.DataPlan.{DataPlan}
use Rattle.sbe_layout.specs.declared.listings.Listing.{Listing}
use Rattle.sbe_layout.specs.declared.listings.Listing.TheVariants.{Nothing, Values, Bits}
use Rattle.sbe_layout.specs.declared.plan.MessagePlan.{MessagePlan}
use Rattle.sbe_layout.specs.declared.plan.Plan.{Plan}
use Rattle.sbe_layout.specs.Trees.{PlanHead, PlanTree, no_plans, plan}
use Rattle.sbe_layout.specs.Plans.{message_of}
use Rattle.sbe_grammar.specs.Values.{null_by}
use Rattle.sbe_grammar.specs.Fits.{form_of, has_form}

-- ---- the bytes of a message

abbrev pub zeros : ℕ → List ℕ
zeros n = replicate n 0

-- the primitive that an item's numbers are written as, and the number that stands for no value
abbrev pub prim_of : ItemKind → Primitive
prim_of (Number p count null low high) = p
prim_of (Enum p at) = p
prim_of (Set p at) = p

abbrev pub null_in : ItemKind → ℤ
null_in (Number p count null low high) = null_by p null
null_in (Enum p at) = null_of p
null_in (Set p at) = null_of p

-- a number in the schema's byte order; a text with NUL behind it to the item's size; bytes as they stand
abbrev pub value_bytes : Order → ItemKind → ℕ → Item → List ℕ
value_bytes order kind size (Num z) = bytes_of (prim_of kind) order z
value_bytes order kind size Null = bytes_of (prim_of kind) order (null_in kind)
value_bytes order kind size Absent = []
value_bytes order kind size (Text t) = t ++ zeros (size - length t)
value_bytes order kind size (Raw b) = b

abbrev pub item_bytes : Order → ItemPlan → Item → List ℕ
item_bytes order p i = value_bytes order p.kind p.size i

-- a block of so many bytes from the place `at` on: each item stands at its offset, and all else is zero
abbrev pub block_bytes : Order → ℕ → ℕ → List ItemPlan → List Item → List ℕ
block_bytes order size at [] is = zeros (size - at)
block_bytes order size at (p ∷ ps) [] = zeros (size - at)
block_bytes order size at (p ∷ ps) (i ∷ is) =
    zeros (p.offset - at) ++ (item_bytes order p i ++ block_bytes order size (max at p.offset + length (item_bytes order p i)) ps is)

-- a length or a count
abbrev pub count_bytes : Order → Primitive → ℕ → List ℕ
count_bytes order p n = bytes_of p order (pos n)

-- data: each is its length and so many bytes
abbrev pub data_bytes : Order → List DataPlan → List Datum → List ℕ
data_bytes order [] vs = []
data_bytes order (d ∷ ds) [] = []
data_bytes order (d ∷ ds) (datum.Absent ∷ vs) = data_bytes order ds vs
data_bytes order (d ∷ ds) (datum.Present text ∷ vs) = count_bytes order d.length (length text) ++ (text ++ data_bytes order ds vs)

abbrev mutual
  -- groups: each is the length of its entries' blocks, the number of its entries, and the entries
  pub groups_bytes : Order → PlanTree → GroupList → List ℕ
  groups_bytes order no_plans no_groups = []
  groups_bytes order no_plans (absent gs) = []
  groups_bytes order no_plans (entries bs gs) = []
  groups_bytes order (plan head inner rest) no_groups = []
  groups_bytes order (plan head inner rest) (absent gs) = groups_bytes order rest gs
  groups_bytes order (plan head inner rest) (entries bs gs) =
      count_bytes order head.block_prim head.block_length ++ (count_bytes order head.count_prim (count_of_blocks bs)
      ++ (entries_bytes order head inner bs ++ groups_bytes order rest gs))

  -- entries: each is a block, its groups, its data
  pub entries_bytes : Order → PlanHead → PlanTree → BlockList → List ℕ
  entries_bytes order head inner no_blocks = []
  entries_bytes order head inner (block items gs vars bs) =
      block_bytes order head.block_length 0 head.items items ++
      (groups_bytes order inner gs ++ (data_bytes order head.vars vars ++ entries_bytes order head inner bs))

-- the header: the length of the root block, the template, and the id and the version of the schema
abbrev pub header_bytes : Plan → MessagePlan → Message → List ℕ
header_bytes schema layout m =
    count_bytes schema.order UInt16 layout.root.block_length ++
    (count_bytes schema.order UInt16 m.template ++ (count_bytes schema.order UInt16 schema.id ++ count_bytes schema.order UInt16 schema.version))

abbrev pub message_bytes : Plan → MessagePlan → Message → List ℕ
message_bytes schema layout m =
    header_bytes schema layout m ++ (block_bytes schema.order layout.root.block_length 0 layout.root.items m.root.items
    ++ (groups_bytes schema.order layout.root.groups m.root.groups ++ data_bytes schema.order layout.root.vars m.root.vars))

abbrev pub canonical_by : Plan → Option MessagePlan → Message → List ℕ
canonical_by schema None m = []
canonical_by schema (Some layout) m = message_bytes schema layout m

-- the canonical encoding; what may not be written has none of a meaning
abbrev pub canonical : Plan → Message → List ℕ
canonical schema m = canonical_by schema (message_of m.template schema.messages) m

-- ---- what may be written

-- the primitive writes the number
abbrev pub can_write : Primitive → ℤ → Bool
can_write p z = is_integer p && holds p z

-- the range of a number: what its type states, or the primitive's default
abbrev pub least_by : Primitive → Option ℤ → ℤ
least_by p None = default_least_of p
least_by p (Some stated) = stated

abbrev pub greatest_by : Primitive → Option ℤ → ℤ
greatest_by p None = default_greatest_of p
greatest_by p (Some stated) = stated

-- an enum lists the number
abbrev pub is_listed : ℤ → Option Listing → Bool
is_listed z None = false
is_listed z (Some Nothing) = false
is_listed z (Some (Values values)) = list_any (λ v. int_eq v.value z) values
is_listed z (Some (Bits bits)) = false

-- what is left of a set's number when a bit is taken out, where it is set, and when the named bits are
abbrev pub without_bit : ℕ → ℕ → ℕ
without_bit bit n = if n / 2 ^ bit % 2 == 1 then n - 2 ^ bit else n

abbrev pub without_bits : List BitDef → ℕ → ℕ
without_bits [] n = n
without_bits (b ∷ bs) n = without_bits bs (without_bit b.bit n)

-- a set names all of the number's bits
abbrev pub names_all : Option Listing → ℤ → Bool
names_all None z = false
names_all (Some Nothing) z = false
names_all (Some (Values values)) z = false
names_all (Some (Bits bits)) (pos n) = without_bits bits n == 0
names_all (Some (Bits bits)) (negsuc n) = false

-- a number that an item of this type may have
abbrev pub may_have : List Listing → ItemKind → ℤ → Bool
may_have listings (Number p count null low high) z = lies_within (least_by p low) (greatest_by p high) z
may_have listings (Enum p at) z = is_listed z (slice_get listings at)
may_have listings (Set p at) z = names_all (slice_get listings at) z

-- the characters of a text lie in the range of their type
abbrev pub in_range : ItemKind → List ℕ → Bool
in_range (Number p count null low high) text = list_all (λ byte. lies_within (least_by p low) (greatest_by p high) (pos byte)) text
in_range (Enum p at) text = true
in_range (Set p at) text = true

-- the number of an item, or that for no value, can be written
abbrev pub is_written : ItemKind → Item → Bool
is_written kind (Num z) = can_write (prim_of kind) z
is_written kind Null = can_write (prim_of kind) (null_in kind)
is_written kind Absent = true
is_written kind (Text text) = true
is_written kind (Raw bytes) = true

-- a value lies in the range of its type
abbrev pub is_ranged : List Listing → ItemKind → Item → Bool
is_ranged listings kind (Num z) = may_have listings kind z
is_ranged listings kind Null = true
is_ranged listings kind Absent = true
is_ranged listings kind (Text text) = in_range kind text
is_ranged listings kind (Raw bytes) = true

-- the value of an item may be written, where it has the item's form
abbrev pub is_admitted : List Listing → ItemKind → Item → Bool
is_admitted listings kind i = is_written kind i && is_ranged listings kind i

abbrev pub is_absent : Item → Bool
is_absent Absent = true
is_absent (Num z) = false
is_absent Null = false
is_absent (Text t) = false
is_absent (Raw b) = false

-- so many items, each there, of its form, and admitted
abbrev pub admits_items : List Listing → List ItemPlan → List Item → Bool
admits_items listings [] [] = true
admits_items listings [] (i ∷ is) = false
admits_items listings (p ∷ ps) [] = false
admits_items listings (p ∷ ps) (i ∷ is) =
    ((not (is_absent i) && has_form (form_of p) i) && is_admitted listings p.kind i) && admits_items listings ps is

-- so many data, each there and of a length that its type holds
abbrev pub admits_data : List DataPlan → List Datum → Bool
admits_data [] [] = true
admits_data [] (v ∷ vs) = false
admits_data (d ∷ ds) [] = false
admits_data (d ∷ ds) (datum.Absent ∷ vs) = false
admits_data (d ∷ ds) (datum.Present text ∷ vs) = can_write d.length (pos (length text)) && admits_data ds vs

-- the dimension of a group of so many entries can be written
abbrev pub holds_dimension : PlanHead → ℕ → Bool
holds_dimension head n = can_write head.block_prim (pos head.block_length) && can_write head.count_prim (pos n)

abbrev mutual
  -- so many groups, each there and of so many entries as its type holds
  pub admits_groups : List Listing → PlanTree → GroupList → Bool
  admits_groups listings no_plans no_groups = true
  admits_groups listings no_plans (absent gs) = false
  admits_groups listings no_plans (entries bs gs) = false
  admits_groups listings (plan head inner rest) no_groups = false
  admits_groups listings (plan head inner rest) (absent gs) = false
  admits_groups listings (plan head inner rest) (entries bs gs) =
      holds_dimension head (count_of_blocks bs) && (admits_entries listings head inner bs && admits_groups listings rest gs)

  pub admits_entries : List Listing → PlanHead → PlanTree → BlockList → Bool
  admits_entries listings head inner no_blocks = true
  admits_entries listings head inner (block items gs vars bs) =
      admits_items listings head.items items && (admits_groups listings inner gs && (admits_data head.vars vars && admits_entries listings head inner bs))

abbrev pub admits : List Listing → MessagePlan → Message → Bool
admits listings layout m =
    admits_items listings layout.root.items m.root.items && (admits_groups listings layout.root.groups m.root.groups
    && admits_data layout.root.vars m.root.vars)

-- the plan has the message's template, the header holds the length of its root block, and all of its elements may be written
pub record MayBeWritten (schema : Plan) (m : Message) : Type 0 where
  pub layout : MessagePlan
  pub found : Some layout ≡ message_of m.template schema.messages
  pub headed : IsTrue (can_write UInt16 (pos layout.root.block_length))
  pub admitted : IsTrue (admits schema.listings layout m)
