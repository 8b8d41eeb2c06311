-- The schema of orders as a schema of SBE 1.0 (this project's profile): three messages, and what version 2 adds to the first of them.
use Rattle.std.specs.Prelude.{◌≡◌, ◌⊎◌, ℕ, nat_le, ℤ, pos, negsuc, if◌then◌else◌, Option, Some, None, List, [], ◌∷◌, ◌++◌, codes, option_map}
use Rattle.sbe_prim.specs.declared.Order.TheVariants.{Little}
use Rattle.sbe_prim.specs.declared.Primitive.TheVariants.{UInt8, UInt16, Char}
use Rattle.schema_types.specs.declared.schema.Schema.{Schema}
use Rattle.schema_types.specs.declared.types.TypeDef.{TypeDef}
use Rattle.schema_types.specs.declared.types.TypeKind.TheVariants.{Number, Enum, Composite}
use Rattle.schema_types.specs.declared.types.ValueDef.{ValueDef}
use Rattle.schema_types.specs.declared.types.MemberDef.{MemberDef}
use Rattle.schema_types.specs.declared.types.Constant.TheVariants.{Num}
use Rattle.schema_types.specs.declared.types.Presence.{Presence}
use Rattle.schema_types.specs.declared.types.Presence.TheVariants.{Required, Optional, Constant}
use Rattle.schema_types.specs.declared.messages.MessageDef.{MessageDef}
use Rattle.schema_types.specs.declared.messages.FieldDef.{FieldDef}
use Rattle.schema_types.specs.Groups.{GroupHead, GroupTree, no_groups, group}
use Rattle.sbe_layout.specs.declared.plan.Plan.{Plan}
use Rattle.sbe_layout.specs.Plans.{plan_of}

-- ---- types: the two sides, the kinds of a report, the name of what is traded, and a price in ten-thousandths

abbrev pub listed : List ℕ → ℕ → ValueDef
listed name n = record { name = name; value = pos n }

abbrev pub enum_type : List ℕ → List ValueDef → TypeDef
enum_type name values = record { name = name; kind = Enum UInt8 values }

abbrev pub presence_by : Option ℤ → Presence
presence_by None = Required
presence_by (Some value) = Constant

-- a member is a constant where it has a value
abbrev pub member : List ℕ → List ℕ → Option ℤ → MemberDef
member name type value = record { name = name; type_name = type; offset = None; presence = presence_by value; value = option_map Num value }

-- a price is its mantissa; the exponent is -4, and not written
abbrev pub price_members : List MemberDef
price_members = member (codes "mantissa") (codes "int64") None ∷ member (codes "exponent") (codes "int8") (Some (negsuc 3)) ∷ []

abbrev pub sides : List ValueDef
sides = listed (codes "Buy") 1 ∷ listed (codes "Sell") 2 ∷ []

abbrev pub kinds : List ValueDef
kinds = listed (codes "Accepted") 1 ∷ listed (codes "Filled") 2 ∷ listed (codes "Expired") 3 ∷ listed (codes "Rejected") 4 ∷ []

abbrev pub order_types : List TypeDef
order_types =
    enum_type (codes "Side") sides
    ∷ enum_type (codes "Kind") kinds
    ∷ record { name = codes "Symbol"; kind = Number Char 8 None None None }
    ∷ record { name = codes "Price"; kind = Composite price_members }
    ∷ []

-- ---- fields, groups and messages, with their ids and names

abbrev pub field_def : ℕ → List ℕ → List ℕ → Presence → ℕ → FieldDef
field_def id name type presence since = record {
  name = name;
  id = id;
  type_name = type;
  presence = presence;
  value = None;
  offset = None;
  since = pos since;
}

-- a field that every order schema has
abbrev pub field : ℕ → List ℕ → List ℕ → FieldDef
field id name type = field_def id name type Required 0

abbrev pub group_head : ℕ → List ℕ → ℕ → List FieldDef → GroupHead
group_head id name since fields = record {
  name = name;
  id = id;
  block_prim = UInt16;
  count_prim = UInt16;
  since = pos since;
  block_length = None;
  fields = fields;
  vars = [];
}

abbrev pub message_def : ℕ → List ℕ → List FieldDef → GroupTree → MessageDef
message_def id name fields groups = record {
  name = name;
  id = id;
  since = pos 0;
  block_length = None;
  fields = fields;
  groups = groups;
  vars = [];
}

-- ---- the three messages

abbrev pub first_order_fields : List FieldDef
first_order_fields =
    field 1 (codes "cl_id") (codes "uint64") ∷ field 2 (codes "side") (codes "Side") ∷ field 3 (codes "symbol") (codes "Symbol")
    ∷ field 4 (codes "quantity") (codes "uint32") ∷ field 5 (codes "price") (codes "Price") ∷ []

abbrev pub first_party_fields : List FieldDef
first_party_fields = field 11 (codes "role") (codes "uint8") ∷ field 12 (codes "party") (codes "uint32") ∷ []

-- what version 2 adds to an order: an account, the desk of a party, and tags
abbrev pub account : FieldDef
account = field_def 6 (codes "account") (codes "uint32") Optional 2

abbrev pub party_desk : FieldDef
party_desk = field_def 13 (codes "desk") (codes "uint16") Required 2

abbrev pub tags : GroupHead
tags = group_head 14 (codes "tags") 2 (field_def 15 (codes "tag") (codes "uint16") Required 2 ∷ [])

abbrev pub order_fields : ℕ → List FieldDef
order_fields version = first_order_fields ++ (if nat_le 2 version then account ∷ [] else [])

abbrev pub party_fields : ℕ → List FieldDef
party_fields version = first_party_fields ++ (if nat_le 2 version then party_desk ∷ [] else [])

abbrev pub parties : ℕ → GroupHead
parties version = group_head 10 (codes "parties") 0 (party_fields version)

abbrev pub order_groups : ℕ → GroupTree
order_groups version = group (parties version) no_groups (if nat_le 2 version then group tags no_groups no_groups else no_groups)

abbrev pub new_order : ℕ → MessageDef
new_order version = message_def 1 (codes "NewOrder") (order_fields version) (order_groups version)

abbrev pub cancel_fields : List FieldDef
cancel_fields = field 1 (codes "cl_id") (codes "uint64") ∷ field 2 (codes "orig") (codes "uint64") ∷ []

abbrev pub cancel : MessageDef
cancel = message_def 2 (codes "Cancel") cancel_fields no_groups

abbrev pub report_fields : List FieldDef
report_fields =
    field 1 (codes "cl_id") (codes "uint64") ∷ field 2 (codes "kind") (codes "Kind") ∷ field 3 (codes "code") (codes "uint8")
    ∷ field 4 (codes "desk") (codes "uint8") ∷ field 5 (codes "quantity") (codes "uint32") ∷ field 6 (codes "price") (codes "Price") ∷ []

abbrev pub report : MessageDef
report = message_def 3 (codes "Report") report_fields no_groups

-- ---- the schema, and the plan of its messages

abbrev pub order_schema : ℕ → Schema
order_schema version = record {
  id = 100;
  version = version;
  order = Little;
  types = order_types;
  messages = new_order version ∷ cancel ∷ report ∷ [];
}

-- there are two versions
abbrev pub IsVersion : ℕ → Type 0
IsVersion version = (version ≡ 1) ⊎ (version ≡ 2)

abbrev pub order_plan : ℕ → Plan
order_plan version = plan_of (order_schema version)

-- the plan of one of them
pub record IsOrderPlan (p : Plan) : Type 0 where
  pub version : ℕ
  pub one : IsVersion version
  pub planned : p ≡ order_plan version
