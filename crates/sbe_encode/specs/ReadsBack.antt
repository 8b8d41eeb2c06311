-- The canonical encoding of a message spells the message, at a legal plan, where the message has no text with a NUL and no
-- optional number that is the one for no value.
use Rattle.std.specs.Prelude.{◌≡◌, ◌<◌, ◌^◌, ℤ, Bool, true, false, not, ◌==◌, IsTrue, Some, List, [], ◌∷◌, ⊤}
use Rattle.std.specs.Ordering.{int_eq}
use Rattle.std.specs.List.{list_all}
use Rattle.schema_types.specs.declared.types.Presence.{Presence}
use Rattle.schema_types.specs.declared.types.Presence.TheVariants.{Required, Optional, Constant}
use Rattle.sbe_value.specs.declared.item.Item.{Item}
use Rattle.sbe_value.specs.declared.item.Item.TheVariants.{Num, Null, Absent, Text, Raw}
use Rattle.sbe_value.specs.declared.message.Message.{Message}
use Rattle.sbe_value.specs.Trees.{GroupList, BlockList, no_groups, absent, entries, no_blocks, block}
use Rattle.sbe_layout.specs.declared.items.ItemKind.{ItemKind}
use Rattle.sbe_layout.specs.declared.items.ItemKind.TheVariants.{Number, Enum, Set}
use Rattle.sbe_layout.specs.declared.items.ItemPlan.{ItemPlan}
use Rattle.sbe_layout.specs.declared.plan.MessagePlan.{MessagePlan}
use Rattle.sbe_layout.specs.declared.plan.Plan.{Plan}
use Rattle.sbe_layout.specs.Trees.{PlanHead, PlanTree, no_plans, plan}
use Rattle.sbe_layout.specs.Legal.{LegalPlan}
use Rattle.sbe_layout.specs.Plans.{message_of}
use Rattle.sbe_grammar.specs.Values.{null_by}
use Rattle.sbe_grammar.specs.Spelling.{Spells}
use Rattle.sbe_grammar.specs.Canonical.{canonical, MayBeWritten}

-- ---- the message

-- a number that is read as no value
abbrev pub is_none : ItemKind → Presence → ℤ → Bool
is_none (Number p count null low high) Required z = false
is_none (Number p count null low high) Optional z = int_eq z (null_by p null)
is_none (Number p count null low high) Constant z = false
is_none (Enum p at) presence z = false
is_none (Set p at) presence z = false

abbrev pub is_plain : ItemKind → Presence → Item → Bool
is_plain kind presence (Num z) = not (is_none kind presence z)
is_plain kind presence Null = true
is_plain kind presence Absent = true
is_plain kind presence (Text text) = list_all (λ byte. not (byte == 0)) text
is_plain kind presence (Raw bytes) = true

abbrev pub ArePlain : List ItemPlan → List Item → Type 0
ArePlain [] is = ⊤
ArePlain (p ∷ ps) [] = ⊤
ArePlain (p ∷ ps) (i ∷ is) = IsTrue (is_plain p.kind p.presence i) × ArePlain ps is

abbrev mutual
  pub ArePlainGroups : PlanTree → GroupList → Type 0
  ArePlainGroups no_plans no_groups = ⊤
  ArePlainGroups no_plans (absent gs) = ⊤
  ArePlainGroups no_plans (entries bs gs) = ⊤
  ArePlainGroups (plan head inner rest) no_groups = ⊤
  ArePlainGroups (plan head inner rest) (absent gs) = ArePlainGroups rest gs
  ArePlainGroups (plan head inner rest) (entries bs gs) = ArePlainEntries head inner bs × ArePlainGroups rest gs

  pub ArePlainEntries : PlanHead → PlanTree → BlockList → Type 0
  ArePlainEntries head inner no_blocks = ⊤
  ArePlainEntries head inner (block items gs vars bs) =
      ArePlain head.items items × (ArePlainGroups inner gs × ArePlainEntries head inner bs)

-- no text of the message has a NUL, and no optional number of it is the one for no value
pub record IsPlain (layout : MessagePlan) (m : Message) : Type 0 where
  pub items : ArePlain layout.root.items m.root.items
  pub groups : ArePlainGroups layout.root.groups m.root.groups

-- the numbers of the header have 16 bits, as their types say
pub record HasWords (schema : Plan) (m : Message) : Type 0 where
  pub template : m.template < 2 ^ 16
  pub id : schema.id < 2 ^ 16
  pub version : schema.version < 2 ^ 16

-- ---- the law

pub record IsReadable (schema : Plan) (m : Message) : Type 0 where
  pub legal : LegalPlan schema
  pub words : HasWords schema m
  pub admitted : MayBeWritten schema m
  pub plain : (layout : MessagePlan) → Some layout ≡ message_of m.template schema.messages → IsPlain layout m

abbrev pub CanonicalReadsBack : Plan → Message → Type 0
CanonicalReadsBack schema m = IsReadable schema m → Spells schema (canonical schema m) m
