-- Exactly the later elements of a message are absent.
use Rattle.std.proofs.Common.{◌≡◌, ℕ, ℤ, Bool, true, false, not, Option, Some, None, List, [], ◌∷◌, length, take, drop, refl, sym, ◌∙◌, ap, subst, if◌then◌else◌, ◌&&◌, ◌==◌}
use Rattle.std.specs.Prelude.{⊤}
use Rattle.std.specs.Prelude.{IsTrue, nat_le}
use Rattle.std.specs.Ordering.{int_eq}
use Rattle.sbe_prim.specs.declared.Primitive.{Primitive}
use Rattle.sbe_prim.specs.declared.Primitive.TheVariants.{Char, Int8, Int16, Int32, Int64, UInt8, UInt16, UInt32, UInt64, Float, Double}
use Rattle.sbe_prim.specs.declared.Order.{Order}
use Rattle.sbe_prim.specs.Primitives.{is_integer, size_of}
use Rattle.sbe_prim.specs.Numbers.{number_of}
use Rattle.schema_types.specs.declared.types.Presence.{Presence}
use Rattle.schema_types.specs.declared.types.Presence.TheVariants.{Required, Optional, Constant}
use Rattle.sbe_value.specs.declared.item.Item.{Item}
use Rattle.sbe_value.specs.declared.item.Item.TheVariants.{Num, Null, Absent, Text, Raw}
use Rattle.sbe_value.specs.declared.datum.Datum.{Datum}
use Rattle.sbe_value.specs.declared.datum.Datum.TheVariants as datum
use Rattle.sbe_value.specs.declared.message.Message.{Message}
use Rattle.sbe_value.specs.Trees.{GroupList, BlockList, no_groups, absent, entries, no_blocks, block}
use Rattle.sbe_layout.specs.declared.items.ItemKind.{ItemKind}
use Rattle.sbe_layout.specs.declared.items.ItemKind.TheVariants.{Number, Enum, Set}
use Rattle.sbe_layout.specs.declared.items.ItemPlan.{ItemPlan}
use Rattle.sbe_layout.specs.declared.items.DataPlan.{DataPlan}
use Rattle.sbe_layout.specs.declared.plan.MessagePlan.{MessagePlan}
use Rattle.sbe_layout.specs.declared.plan.Plan.{Plan}
use Rattle.sbe_layout.specs.Trees.{PlanHead, PlanTree, no_plans, plan}
use Rattle.sbe_grammar.specs.Values.{is_in, null_by, number_or_null, of_integer, array_value, value_by, item_in, items_in}
use Rattle.sbe_grammar.specs.Spelling.{SpellsData, SpellsGroups, SpellsEntries, SpellsBy}
use Rattle.sbe_grammar.specs.Canonical.{is_absent}
use Rattle.sbe_skew.specs.Absences.{LaterItems, LaterData, LaterGroups, LaterEntries, LaterAreAbsent}

-- ---- a value that is read is not absent

either_there : (b : Bool) (x y : Item) → is_absent x ≡ false → is_absent y ≡ false → is_absent (if b then x else y) ≡ false
either_there true x y there other = there
either_there false x y there other = other

array_there : (p : Primitive) (bytes : List ℕ) → is_absent (array_value p bytes) ≡ false
array_there Char bytes = refl
array_there Int8 bytes = refl
array_there Int16 bytes = refl
array_there Int32 bytes = refl
array_there Int64 bytes = refl
array_there UInt8 bytes = refl
array_there UInt16 bytes = refl
array_there UInt32 bytes = refl
array_there UInt64 bytes = refl
array_there Float bytes = refl
array_there Double bytes = refl

number_there : (presence : Presence) (null z : ℤ) → is_absent (number_or_null presence null z) ≡ false
number_there Required null z = refl
number_there Optional null z = either_there (int_eq z null) Null (Num z) refl refl
number_there Constant null z = refl

integer_there : (order : Order) (p : Primitive) (made : ℤ → Item) (bytes : List ℕ) → ((z : ℤ) → is_absent (made z) ≡ false) → is_absent (of_integer order p made bytes) ≡ false
integer_there order p made bytes there =
    either_there (is_integer p && (length bytes == size_of p)) (made (number_of p order bytes)) (Raw bytes) (there (number_of p order bytes)) refl

value_there : (order : Order) (presence : Presence) (kind : ItemKind) (bytes : List ℕ) → is_absent (value_by order presence kind bytes) ≡ false
value_there order presence (Number p count null low high) bytes =
    either_there (nat_le 2 count) (array_value p bytes) (of_integer order p (number_or_null presence (null_by p null)) bytes) (array_there p bytes) (integer_there order p (number_or_null presence (null_by p null)) bytes (number_there presence (null_by p null)))
value_there order presence (Enum p at) bytes = integer_there order p Num bytes (λ z. refl)
value_there order presence (Set p at) bytes = integer_there order p Num bytes (λ z. refl)

-- ---- items, data, groups

chosen : (b : Bool) (x : Item) → is_absent x ≡ false → is_absent (if b then x else Absent) ≡ not b
chosen true x there = there
chosen false x there = refl

items_later : (order : Order) (version : ℕ) (bytes : List ℕ) (plans : List ItemPlan) → LaterItems version plans (items_in order version bytes plans)
items_later order version bytes [] = tt
items_later order version bytes (p ∷ ps) = (
  chosen (is_in version p.since) (value_by order p.presence p.kind (take p.size (drop p.offset bytes))) (value_there order p.presence p.kind (take p.size (drop p.offset bytes))),
  items_later order version bytes ps,
)

block_later : (order : Order) (version : ℕ) (plans : List ItemPlan) (items : List Item) (bytes : List ℕ) → items ≡ items_in order version bytes plans → LaterItems version plans items
block_later order version plans items bytes same = subst (LaterItems version plans) (sym same) (items_later order version bytes plans)

data_later : (order : Order) (version : ℕ) (vs : List Datum) (ds : List DataPlan) (bytes : List ℕ) → SpellsData order version vs ds bytes → LaterData version ds vs
data_later order version [] [] bytes s = tt
data_later order version [] (d ∷ ds) bytes s = absurd s
data_later order version (v ∷ vs) [] bytes s = absurd s
data_later order version (datum.Absent ∷ vs) (d ∷ ds) bytes s = (sym s.0, data_later order version vs ds bytes s.1)
data_later order version (datum.Present t ∷ vs) (d ∷ ds) bytes s =
    (sym (ap not s.0), data_later order version vs ds s.1.is_behind.behind s.1.is_behind.is_behind)

mutual
  groups_later : (gs : GroupList) (order : Order) (version : ℕ) (plans : PlanTree) (bytes : List ℕ) → SpellsGroups order version gs plans bytes → LaterGroups version plans gs
  groups_later no_groups order version no_plans bytes s = tt
  groups_later no_groups order version (plan head inner others) bytes s = absurd s
  groups_later (absent gs) order version no_plans bytes s = absurd s
  groups_later (absent gs) order version (plan head inner others) bytes s = (sym s.0, groups_later gs order version others bytes s.1)
  groups_later (entries bs gs) order version no_plans bytes s = absurd s
  groups_later (entries bs gs) order version (plan head inner others) bytes s =
      let body = s.1.1.is_behind.is_behind in
      (sym (ap not s.0), entries_later bs order version head inner s.1.0 body.front body.is_front, groups_later gs order version others body.behind body.is_behind)

  entries_later : (bs : BlockList) (order : Order) (version : ℕ) (head : PlanHead) (inner : PlanTree) (size : ℕ) (bytes : List ℕ) → SpellsEntries order version bs head inner size bytes → LaterEntries version head inner bs
  entries_later no_blocks order version head inner size bytes s = tt
  entries_later (block is gs vs bs) order version head inner size bytes s =
      let groups = s.is_behind in
      let datums = groups.is_behind in (
        block_later order version head.items is s.front s.is_front.values,
        groups_later gs order version inner groups.front groups.is_front,
        data_later order version vs head.vars datums.front datums.is_front,
        entries_later bs order version head inner size datums.behind datums.is_behind,
      )

-- ---- messages

pub later_law : (schema : Plan) (layout : MessagePlan) (bytes : List ℕ) (m : Message) (s : SpellsBy schema layout bytes m) → LaterAreAbsent s.version layout.root m.root
later_law schema layout bytes m s =
    let body = s.joined.is_behind.is_behind.is_behind.is_behind in
    let groups = body.is_behind in
    let datums = groups.is_behind in
    record {
      items = block_later schema.order s.version layout.root.items m.root.items body.front body.is_front.values;
      groups = groups_later m.root.groups schema.order s.version layout.root.groups groups.front groups.is_front;
      vars = data_later schema.order s.version m.root.vars layout.root.vars datums.front datums.is_front;
    }
