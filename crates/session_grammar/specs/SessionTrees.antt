-- A session message as a tree of values, as the grammar of messages has it (SBE 1.0): its fields in schema order, and its variable data.
use Rattle.std.specs.Prelude.{ℕ, pos, Bool, true, false, Option, Some, None, List, [], ◌∷◌, map, filter}
use Rattle.sbe_value.specs.declared.item.Item.{Item}
use Rattle.sbe_value.specs.declared.item.Item.TheVariants.{Num, Null, Raw, Absent}
use Rattle.sbe_value.specs.declared.datum.Datum.{Datum}
use Rattle.sbe_value.specs.declared.datum.Datum.TheVariants.{Present}
use Rattle.sbe_value.specs.declared.message.Message as tree
use Rattle.sbe_value.specs.Trees.{no_groups}
use Rattle.fixp_msgs.specs.declared.messages.Expected.{Expected}
use Rattle.fixp_msgs.specs.declared.messages.Expected.TheVariants as expects
use Rattle.fixp_msgs.specs.Message.{Message}
use Rattle.fixp_msgs.specs.Table.{Field, Row, row_of}

-- a number that may be missing: the null item says that it is
abbrev pub optional_item : Option ℕ → Item
optional_item None = Null
optional_item (Some n) = Num (pos n)

-- an expected number, which version 0 does not have
abbrev pub expected_item : Expected → Item
expected_item expects.Absent = Absent
expected_item expects.Null = Null
expected_item (expects.Number n) = Num (pos n)

-- an identifier is its bytes, and any other field a number
abbrev pub item_of : Field → Item
item_of (Field.identifier id) = Raw id
item_of (Field.u8 n) = Num (pos n)
item_of (Field.u32 n) = Num (pos n)
item_of (Field.u64 n) = Num (pos n)
item_of (Field.optional n) = optional_item n
item_of (Field.expected e) = expected_item e

abbrev pub data_of : Option (List ℕ) → List Datum
data_of None = []
data_of (Some datum) = Present datum ∷ []

-- a row's tree
abbrev pub tree_of_row : Row → tree.Message
tree_of_row r = record {
  template = r.template;
  root = record { items = map item_of r.fields; groups = no_groups; vars = data_of r.datum };
}

-- the tree of a session message, by its row in the table of the session messages
abbrev pub tree_of : Message → tree.Message
tree_of m = tree_of_row (row_of m)

-- a field that version 0 has
abbrev pub is_first : Field → Bool
is_first (Field.identifier _) = true
is_first (Field.u8 _) = true
is_first (Field.u32 _) = true
is_first (Field.u64 _) = true
is_first (Field.optional _) = true
is_first (Field.expected _) = false

-- what a reader of version 0 has of a session message: the row without the expected number
abbrev pub row_before : Message → Row
row_before m = record (row_of m) { fields = filter is_first (row_of m).fields }

abbrev pub tree_before : Message → tree.Message
tree_before m = tree_of_row (row_before m)
