-- Which bytes spell a message by a plan (SBE 1.0, "Message structure"): its header, its root block, its groups, its data.
-- There is no cursor: bytes spell something where they are parts, one behind another, that spell its parts.
use Rattle.std.specs.Prelude.{◌≡◌, ⊤, ℕ, ◌≤◌, IsTrue, Some, not, List, [], ◌∷◌, length}
use Rattle.sbe_prim.specs.declared.Primitive.TheVariants.{UInt16}
use Rattle.sbe_prim.specs.declared.Order.{Order}
use Rattle.sbe_value.specs.declared.item.Item.{Item}
use Rattle.sbe_value.specs.declared.datum.Datum.{Datum}
use Rattle.sbe_value.specs.declared.datum.Datum.TheVariants as datum
use Rattle.sbe_value.specs.declared.message.Message.{Message}
use Rattle.sbe_value.specs.Trees.{GroupList, BlockList, no_groups, absent, entries, no_blocks, block, count_of_blocks}
use Rattle.sbe_layout.specs.declared.items.ItemPlan.{ItemPlan}
use Rattle.sbe_layout.specs.declared.items.Mark.{Mark}
use Rattle.sbe_layout.specs.declared.items.DataPlan.{DataPlan}
use Rattle.sbe_layout.specs.declared.plan.MessagePlan.{MessagePlan}
use Rattle.sbe_layout.specs.declared.plan.Plan.{Plan}
use Rattle.sbe_layout.specs.Trees.{PlanHead, PlanTree, no_plans, plan}
use Rattle.sbe_layout.specs.Plans.{message_of}
use Rattle.sbe_grammar.specs.Parts.{Then, IsNumber}
use Rattle.sbe_grammar.specs.Values.{is_in, items_in}

-- each field that a message of this version has ends within so many bytes
abbrev pub AllWithin : ℕ → ℕ → List Mark → Type 0
AllWithin version size [] = ⊤
AllWithin version size (m ∷ ms) = (IsTrue (is_in version m.since) → m.end ≤ size) × AllWithin version size ms

-- a block of so many bytes: its fields lie whole in it, and these are the values of its items
pub record IsBlock (order : Order) (version size : ℕ) (marks : List Mark) (plans : List ItemPlan) (items : List Item) (bytes : List ℕ) : Type 0 where
  pub whole : length bytes ≡ size
  pub fields_within : AllWithin version size marks
  pub values : items ≡ items_in order version bytes plans

-- the data of a block, one behind another: each is its length and so many bytes, or is absent and takes none
abbrev pub SpellsData : Order → ℕ → List Datum → List DataPlan → List ℕ → Type 0
SpellsData order version [] [] bytes = bytes ≡ []
SpellsData order version [] (d ∷ ds) bytes = ⊥
SpellsData order version (v ∷ vs) [] bytes = ⊥
SpellsData order version (datum.Absent ∷ vs) (d ∷ ds) bytes =
    IsTrue (not (is_in version d.since)) × SpellsData order version vs ds bytes
SpellsData order version (datum.Present text ∷ vs) (d ∷ ds) bytes =
    IsTrue (is_in version d.since)
    × Then (IsNumber order d.length (length text)) (Then (λ part. part ≡ text) (SpellsData order version vs ds)) bytes

abbrev mutual
  -- groups, one behind another: each is the length of its entries' blocks, their number, and the entries, or is absent and takes no bytes
  pub SpellsGroups : Order → ℕ → GroupList → PlanTree → List ℕ → Type 0
  SpellsGroups order version no_groups no_plans bytes = bytes ≡ []
  SpellsGroups order version no_groups (plan head inner rest) bytes = ⊥
  SpellsGroups order version (absent gs) no_plans bytes = ⊥
  SpellsGroups order version (absent gs) (plan head inner rest) bytes =
      IsTrue (not (is_in version head.since)) × SpellsGroups order version gs rest bytes
  SpellsGroups order version (entries bs gs) no_plans bytes = ⊥
  SpellsGroups order version (entries bs gs) (plan head inner rest) bytes =
      IsTrue (is_in version head.since)
      × ((size : ℕ) × Then (IsNumber order head.block_prim size)
      (Then (IsNumber order head.count_prim (count_of_blocks bs))
      (Then (SpellsEntries order version bs head inner size) (SpellsGroups order version gs rest))) bytes)

  -- entries, one behind another: each is a block of that size, its groups, its data
  pub SpellsEntries : Order → ℕ → BlockList → PlanHead → PlanTree → ℕ → List ℕ → Type 0
  SpellsEntries order version no_blocks head inner size bytes = bytes ≡ []
  SpellsEntries order version (block items gs vars bs) head inner size bytes =
      Then (IsBlock order version size head.marks head.items items)
      (Then (SpellsGroups order version gs inner) (Then (SpellsData order version vars head.vars) (SpellsEntries order version bs head inner size))) bytes

-- the header, the root block of the size that the header tells, the groups, the data, and any bytes
pub record SpellsBy (schema : Plan) (layout : MessagePlan) (bytes : List ℕ) (m : Message) : Type 0 where
  pub size : ℕ
  pub version : ℕ
  pub found : Some layout ≡ message_of m.template schema.messages
  pub joined :
      Then (IsNumber schema.order UInt16 size)
      (Then (IsNumber schema.order UInt16 m.template)
      (Then (IsNumber schema.order UInt16 schema.id)
      (Then (IsNumber schema.order UInt16 version)
      (Then (IsBlock schema.order version size layout.root.marks layout.root.items m.root.items)
      (Then (SpellsGroups schema.order version m.root.groups layout.root.groups)
      (Then (SpellsData schema.order version m.root.vars layout.root.vars) (λ rest. ⊤))))))) bytes

-- the bytes spell the message by the plan of its schema
abbrev pub Spells : Plan → List ℕ → Message → Type 0
Spells schema bytes m = (layout : MessagePlan) × SpellsBy schema layout bytes m
