-- What the values of a message and the names of a plan are, where lines are read back.
use Rattle.std.specs.Prelude.{◌≢◌, ⊤, IsTrue, ℕ, ◌-◌, ◌^◌, ◌==◌, ◌&&◌, nat_le, nat_lt, ℤ, pos, negsuc, Bool, true, not, List, [], ◌∷◌}
use Rattle.std.specs.List.{AllByRecursion}
use Rattle.sbe_value.specs.declared.item.Item.{Item}
use Rattle.sbe_value.specs.declared.item.Item.TheVariants.{Num, Null, Absent, Text, Raw}
use Rattle.sbe_value.specs.declared.datum.Datum.{Datum}
use Rattle.sbe_value.specs.declared.datum.Datum.TheVariants as datum
use Rattle.sbe_value.specs.declared.message.Message.{Message}
use Rattle.sbe_value.specs.Trees.{GroupList, BlockList, no_groups, absent, entries, no_blocks, block, count_of_blocks}
use Rattle.sbe_layout.specs.declared.items.ItemPlan.{ItemPlan}
use Rattle.sbe_layout.specs.declared.items.DataPlan.{DataPlan}
use Rattle.sbe_layout.specs.declared.plan.MessagePlan.{MessagePlan}
use Rattle.sbe_layout.specs.declared.plan.Plan.{Plan}
use Rattle.sbe_layout.specs.Trees.{PlanTree, no_plans, plan}

-- ---- values are those of the types of the program: bytes, and numbers and counts that 128 bits with a sign hold

abbrev pub are_bytes : List ℕ → Bool
are_bytes [] = true
are_bytes (byte ∷ bytes) = nat_lt byte 256 && are_bytes bytes

-- -(n + 1) is written negsuc n
abbrev pub is_number : ℤ → Bool
is_number (pos n) = nat_le n (2 ^ 127 - 1)
is_number (negsuc n) = nat_le n (2 ^ 127 - 1)

abbrev pub is_item : Item → Bool
is_item (Num z) = is_number z
is_item Null = true
is_item Absent = true
is_item (Text bytes) = are_bytes bytes
is_item (Raw bytes) = are_bytes bytes

abbrev pub are_items : List Item → Bool
are_items [] = true
are_items (i ∷ is) = is_item i && are_items is

abbrev pub is_datum : Datum → Bool
is_datum datum.Absent = true
is_datum (datum.Present bytes) = are_bytes bytes

abbrev pub are_data : List Datum → Bool
are_data [] = true
are_data (v ∷ vs) = is_datum v && are_data vs

abbrev mutual
  pub are_groups : GroupList → Bool
  are_groups no_groups = true
  are_groups (absent gs) = are_groups gs
  are_groups (entries bs gs) = nat_le (count_of_blocks bs) (2 ^ 127 - 1) && (are_blocks bs && are_groups gs)

  pub are_blocks : BlockList → Bool
  are_blocks no_blocks = true
  are_blocks (block items gs vars bs) = are_items items && (are_groups gs && (are_data vars && are_blocks bs))

abbrev pub is_message : Message → Bool
is_message m = are_items m.root.items && (are_groups m.root.groups && are_data m.root.vars)

-- ---- a name is a word where it has no line feed (10) and no carriage return (13)

abbrev pub is_word : List ℕ → Bool
is_word [] = true
is_word (byte ∷ bytes) = (not (byte == 10) && not (byte == 13)) && is_word bytes

abbrev pub items_have_words : List ItemPlan → Bool
items_have_words [] = true
items_have_words (p ∷ ps) = is_word p.name && items_have_words ps

abbrev pub data_have_words : List DataPlan → Bool
data_have_words [] = true
data_have_words (d ∷ ds) = is_word d.name && data_have_words ds

abbrev pub groups_have_words : PlanTree → Bool
groups_have_words no_plans = true
groups_have_words (plan g inner rest) =
    is_word g.name && (items_have_words g.items && (groups_have_words inner && (data_have_words g.vars && groups_have_words rest)))

abbrev pub message_has_words : MessagePlan → Bool
message_has_words l =
    is_word l.name && (items_have_words l.root.items && (groups_have_words l.root.groups && data_have_words l.root.vars))

-- no message has this name
abbrev pub AreNamedOtherwise : List ℕ → List MessagePlan → Type 0
AreNamedOtherwise name messages = AllByRecursion (λ m. m.name ≢ name) messages

-- no two messages have one name
abbrev pub HaveOwnNames : List MessagePlan → Type 0
HaveOwnNames [] = ⊤
HaveOwnNames (m ∷ ms) = AreNamedOtherwise m.name ms × HaveOwnNames ms

-- the names of a plan are words, and tell its messages apart
pub record HasWords (schema : Plan) : Type 0 where
  pub apart : HaveOwnNames schema.messages
  pub words : AllByRecursion (λ m. IsTrue (message_has_words m)) schema.messages
