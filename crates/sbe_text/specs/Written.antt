-- The lines of a message (this project's profile): its name, its elements in schema order, and the line `end`. Where the listings of its schema are
-- given, numbers of enums and sets stand with their names; without listings no number has one.
use Rattle.std.specs.Prelude.{ℕ, ◌+◌, ◌==◌, ◌&&◌, nat_le, Bool, true, not, if◌then◌else◌, Option, Some, None, List, [], ◌∷◌, ◌++◌, codes, decimal}
use Rattle.std.specs.Fmt.{signed_decimal}
use Rattle.hex.specs.Hex.{encode_lower}
use Rattle.sbe_value.specs.declared.item.Item.{Item}
use Rattle.sbe_value.specs.declared.item.Item.TheVariants.{Num, Null, Absent, Text, Raw}
use Rattle.sbe_value.specs.declared.datum.Datum.{Datum}
use Rattle.sbe_value.specs.declared.datum.Datum.TheVariants as datum
use Rattle.sbe_value.specs.declared.message.Message.{Message}
use Rattle.sbe_value.specs.Trees.{GroupList, BlockList, no_groups, absent, entries, no_blocks, block, count_of_blocks}
use Rattle.sbe_layout.specs.declared.items.ItemPlan.{ItemPlan}
use Rattle.sbe_layout.specs.declared.listings.Listing.{Listing}
use Rattle.sbe_layout.specs.declared.items.DataPlan.{DataPlan}
use Rattle.sbe_layout.specs.declared.plan.MessagePlan.{MessagePlan}
use Rattle.sbe_layout.specs.declared.plan.Plan.{Plan}
use Rattle.sbe_layout.specs.Trees.{PlanHead, PlanTree, no_plans, plan}
use Rattle.sbe_layout.specs.Plans.{message_of}
use Rattle.sbe_text.specs.Named.{names_of}

-- ---- values

-- a byte that may stand between quotes: 0x20 to 0x7E, but no quote (34) and no backslash (92)
abbrev pub is_plain : ℕ → Bool
is_plain byte = (nat_le 0x20 byte && nat_le byte 0x7e) && (not (byte == 34) && not (byte == 92))

abbrev pub are_plain : List ℕ → Bool
are_plain [] = true
are_plain (byte ∷ bytes) = is_plain byte && are_plain bytes

-- bytes in lower-case hexadecimal behind an `x` (120)
abbrev pub raw_text : List ℕ → List ℕ
raw_text bytes = 120 ∷ encode_lower bytes

-- characters between quotes
abbrev pub quoted : List ℕ → List ℕ
quoted text = 34 ∷ (text ++ 34 ∷ [])

-- an array of characters stands between quotes where all its bytes may, and else as raw bytes
abbrev pub value_text : Item → List ℕ
value_text (Num z) = signed_decimal z
value_text Null = codes "null"
value_text Absent = codes "absent"
value_text (Text text) = if are_plain text then quoted text else raw_text text
value_text (Raw bytes) = raw_text bytes

abbrev pub datum_text : Datum → List ℕ
datum_text datum.Absent = codes "absent"
datum_text (datum.Present bytes) = raw_text bytes

-- ---- the line of an element; `before` stands before its name, and a line feed (10) ends it

abbrev pub element_line : List ℕ → List ℕ → List ℕ → List ℕ
element_line before name value = before ++ name ++ codes " = " ++ value ++ 10 ∷ []

-- the line of an item: its value, and what that is called
abbrev pub item_line : List Listing → List ℕ → ItemPlan → Item → List ℕ
item_line listings before p i = before ++ p.name ++ codes " = " ++ value_text i ++ (names_of listings p.kind i ++ 10 ∷ [])

-- what stands before the names in an entry: the group's path, the entry's place in brackets (91 and 93), a dot (46)
abbrev pub before_in : List ℕ → PlanHead → ℕ → List ℕ
before_in before g at = before ++ g.name ++ 91 ∷ decimal at ++ 93 ∷ 46 ∷ []

-- ---- the elements of a block: its items, its groups, its data

abbrev pub item_lines : List Listing → List ℕ → List Item → List ItemPlan → List ℕ
item_lines listings before is [] = []
item_lines listings before [] (p ∷ ps) = []
item_lines listings before (i ∷ is) (p ∷ ps) = item_line listings before p i ++ item_lines listings before is ps

abbrev pub lines_of_data : List ℕ → List Datum → List DataPlan → List ℕ
lines_of_data before vs [] = []
lines_of_data before [] (d ∷ ds) = []
lines_of_data before (v ∷ vs) (d ∷ ds) = element_line before d.name (datum_text v) ++ lines_of_data before vs ds

abbrev mutual
  -- each group's line has the number of its entries, and their elements follow it
  pub group_lines : List Listing → List ℕ → GroupList → PlanTree → List ℕ
  group_lines listings before gs no_plans = []
  group_lines listings before no_groups (plan g inner rest) = []
  group_lines listings before (absent gs) (plan g inner rest) = element_line before g.name (codes "absent") ++ group_lines listings before gs rest
  group_lines listings before (entries bs gs) (plan g inner rest) =
      element_line before g.name (decimal (count_of_blocks bs)) ++ entry_lines listings before 0 bs g inner ++ group_lines listings before gs rest

  -- the elements of each entry, the first of them at the place `at`
  pub entry_lines : List Listing → List ℕ → ℕ → BlockList → PlanHead → PlanTree → List ℕ
  entry_lines listings before at no_blocks g inner = []
  entry_lines listings before at (block items gs vars bs) g inner =
      item_lines listings (before_in before g at) items g.items ++ group_lines listings (before_in before g at) gs inner
      ++ lines_of_data (before_in before g at) vars g.vars ++ entry_lines listings before (at + 1) bs g inner

-- ---- messages

abbrev pub message_line : List ℕ → List ℕ
message_line name = codes "message " ++ name ++ 10 ∷ []

abbrev pub end_line : List ℕ
end_line = codes "end\n"

-- nothing stands before the names in the root block
abbrev pub message_lines : List Listing → Message → Option MessagePlan → List ℕ
message_lines listings m None = []
message_lines listings m (Some layout) =
    message_line layout.name ++ item_lines listings [] m.root.items layout.root.items ++ group_lines listings [] m.root.groups layout.root.groups
    ++ lines_of_data [] m.root.vars layout.root.vars ++ end_line

-- the lines of a message by the plan of its schema, its numbers without names
abbrev pub lines_of_message : Plan → Message → List ℕ
lines_of_message schema m = message_lines [] m (message_of m.template schema.messages)

-- and with names
abbrev pub named_lines_of_message : Plan → Message → List ℕ
named_lines_of_message schema m = message_lines schema.listings m (message_of m.template schema.messages)
