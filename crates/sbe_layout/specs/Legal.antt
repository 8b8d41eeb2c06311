-- A legal plan: what stands in its messages lies within their blocks, and is of types that can be read and written (SBE 1.0, "Message structure").
use Rattle.std.specs.Prelude.{◌≡◌, ◌≢◌, ◌⊎◌, ℕ, ℤ, ◌+◌, ◌*◌, ◌≤◌, ◌<◌, max, pos, int_lt, Bool, not, ◌&&◌, ◌||◌, nat_lt, IsTrue, Option, Some, None, List, [], ◌∷◌, slice_get, ⊤}
use Rattle.std.specs.List.{AllByRecursion}
use Rattle.sbe_prim.specs.declared.Primitive.{Primitive}
use Rattle.sbe_prim.specs.Primitives.{size_of, holds}
use Rattle.sbe_schema.specs.Kinds.{is_char, is_uint8, is_uint16, is_uint32, is_uint64, is_dimension, is_empty}
use Rattle.sbe_schema.specs.Limits.{is_unheld}
use Rattle.sbe_layout.specs.declared.items.ItemKind.{ItemKind}
use Rattle.sbe_layout.specs.declared.items.ItemKind.TheVariants.{Number, Enum, Set}
use Rattle.sbe_layout.specs.declared.items.ItemPlan.{ItemPlan}
use Rattle.sbe_layout.specs.declared.items.Mark.{Mark}
use Rattle.sbe_layout.specs.declared.items.DataPlan.{DataPlan}
use Rattle.sbe_layout.specs.declared.listings.Listing.{Listing}
use Rattle.sbe_layout.specs.declared.listings.Listing.TheVariants.{Nothing, Values, Bits}
use Rattle.sbe_layout.specs.declared.plan.MessagePlan.{MessagePlan}
use Rattle.sbe_layout.specs.declared.plan.Plan.{Plan}
use Rattle.sbe_layout.specs.Trees.{PlanHead, PlanTree, no_plans, plan}

-- how many bytes an item of a type takes: an array has as many elements as its length, and a length below 2 is the primitive itself
abbrev pub size_of_item : ItemKind → ℕ
size_of_item (Number prim length null low high) = size_of prim * max length 1
size_of_item (Enum prim at) = size_of prim
size_of_item (Set prim at) = size_of prim

-- an array is one of char or uint8, and a number's null, least and greatest are held by its primitive; an enum is a char, uint8 or uint16; a set is unsigned
abbrev pub is_legal_kind : ItemKind → Bool
is_legal_kind (Number prim length null low high) =
    (not (nat_lt 1 length) || (is_char prim || is_uint8 prim)) && not (is_unheld prim null || (is_unheld prim low || is_unheld prim high))
is_legal_kind (Enum prim at) = is_char prim || (is_uint8 prim || is_uint16 prim)
is_legal_kind (Set prim at) = (is_uint8 prim || is_uint16 prim) || (is_uint32 prim || is_uint64 prim)

-- an enum lists its values: at least one, each held by the primitive
abbrev pub ListsValues : Primitive → Option Listing → Type 0
ListsValues prim (Some (Values values)) =
    IsTrue (not (is_empty values)) × AllByRecursion (λ v. IsTrue (holds prim v.value)) values
ListsValues prim (Some (Bits bits)) = ⊥
ListsValues prim (Some Nothing) = ⊥
ListsValues prim None = ⊥

-- a set lists its bits, each below the primitive's width
abbrev pub ListsBits : Primitive → Option Listing → Type 0
ListsBits prim (Some (Bits bits)) = AllByRecursion (λ b. b.bit < 8 * size_of prim) bits
ListsBits prim (Some (Values values)) = ⊥
ListsBits prim (Some Nothing) = ⊥
ListsBits prim None = ⊥

-- so does the type of an item, at its place among the types
abbrev pub IsListed : List Listing → ItemKind → Type 0
IsListed listings (Number prim length null low high) = ⊤
IsListed listings (Enum prim at) = ListsValues prim (slice_get listings at)
IsListed listings (Set prim at) = ListsBits prim (slice_get listings at)

-- some field came with this version, and ends at this place or behind it
abbrev pub SomeFieldEnds : ℤ → ℕ → List Mark → Type 0
SomeFieldEnds since place [] = ⊥
SomeFieldEnds since place (m ∷ ms) = ((m.since ≡ since) × (place ≤ m.end)) ⊎ SomeFieldEnds since place ms

-- an element came with this version or an earlier one
abbrev pub CameBy : ℕ → ℤ → Type 0
CameBy version since = IsTrue (not (int_lt (pos version) since))

-- an item came by the schema's version; it ends within its block, and within a field that came with the same version, so that it lies whole in each block
-- that is long enough for the fields of its version; it takes the bytes of its type
pub record IsLegalItem (version : ℕ) (listings : List Listing) (block : ℕ) (marks : List Mark) (i : ItemPlan) : Type 0 where
  pub came : CameBy version i.since
  pub within : i.offset + i.size ≤ block
  pub in_field : SomeFieldEnds i.since (i.offset + i.size) marks
  pub sized : i.size ≡ size_of_item i.kind
  pub kind : IsTrue (is_legal_kind i.kind)
  pub listed : IsListed listings i.kind

-- no item begins before this place, nor before the end of the item before it
abbrev pub StandInOrder : ℕ → List ItemPlan → Type 0
StandInOrder place [] = ⊤
StandInOrder place (i ∷ is) = (place ≤ i.offset) × StandInOrder (i.offset + i.size) is

-- data came by the schema's version, and their length is uint8, uint16 or uint32
pub record IsLegalDatum (version : ℕ) (d : DataPlan) : Type 0 where
  pub came : CameBy version d.since
  pub length : IsTrue (is_dimension d.length || is_uint32 d.length)

-- a field ends within its block
abbrev pub EndsWithin : ℕ → Mark → Type 0
EndsWithin block m = m.end ≤ block

-- a block of at most 16,384 bytes, within which its fields and items end, and its items stand one behind another
pub record IsLegalBlock (version : ℕ) (listings : List Listing) (size : ℕ) (items : List ItemPlan) (marks : List Mark) (vars : List DataPlan) : Type 0 where
  pub bounded : size ≤ 16384
  pub each_item : AllByRecursion (IsLegalItem version listings size marks) items
  pub in_order : StandInOrder 0 items
  pub each_field : AllByRecursion (EndsWithin size) marks
  pub each_datum : AllByRecursion (IsLegalDatum version) vars

-- a group came by the schema's version; its dimension is two of uint8 and uint16, the first of which holds the length of its block
pub record IsLegalGroup (version : ℕ) (listings : List Listing) (g : PlanHead) : Type 0 where
  pub came : CameBy version g.since
  pub dimension : IsTrue (is_dimension g.block_prim && is_dimension g.count_prim)
  pub held : IsTrue (holds g.block_prim (pos g.block_length))
  pub block : IsLegalBlock version listings g.block_length g.items g.marks g.vars

-- so are all groups, at every depth
abbrev pub AreLegalGroups : ℕ → List Listing → PlanTree → Type 0
AreLegalGroups version listings no_plans = ⊤
AreLegalGroups version listings (plan head inner rest) =
    IsLegalGroup version listings head × (AreLegalGroups version listings inner × AreLegalGroups version listings rest)

-- a message of a schema of that version, whose types list this
pub record IsLegalMessage (version : ℕ) (listings : List Listing) (m : MessagePlan) : Type 0 where
  pub block : IsLegalBlock version listings m.root.block_length m.root.items m.root.marks m.root.vars
  pub groups : AreLegalGroups version listings m.root.groups

-- no message has this template
abbrev pub AreOfOthers : ℕ → List MessagePlan → Type 0
AreOfOthers template messages = AllByRecursion (λ m. m.template ≢ template) messages

-- no two messages have one template
abbrev pub HaveOwnTemplates : List MessagePlan → Type 0
HaveOwnTemplates [] = ⊤
HaveOwnTemplates (m ∷ ms) = AreOfOthers m.template ms × HaveOwnTemplates ms

pub record LegalPlan (p : Plan) : Type 0 where
  pub templates : HaveOwnTemplates p.messages
  pub messages : AllByRecursion (IsLegalMessage p.version p.listings) p.messages
