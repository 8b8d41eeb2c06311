-- The tables of a schema in the order of a walk, each with its place and with what its rules need of its surroundings.
use Rattle.std.specs.Prelude.{ℕ, ℤ, List, [], ◌∷◌, codes}
use Rattle.sbe_prim.specs.declared.Primitive.{Primitive}
use Rattle.sbe_value.specs.declared.path.Step.{Step}
use Rattle.sbe_value.specs.declared.path.Step.TheVariants.{Key, At}
use Rattle.sbe_schema.specs.declared.fault.PathStep.{PathStep}
use Rattle.sbe_schema.specs.declared.fault.TableArray.{TableArray}
use Rattle.sbe_schema.specs.declared.fault.TableArray.TheVariants.{Types, Values, Bits, Members, Messages, Fields, Groups, Data}
use Rattle.sbe_schema.specs.declared.parent.Parent.{Parent}
use Rattle.schema_types.specs.declared.types.TypeDef.{TypeDef}
use Rattle.schema_types.specs.declared.types.ValueDef.{ValueDef}
use Rattle.schema_types.specs.declared.types.BitDef.{BitDef}
use Rattle.schema_types.specs.declared.types.MemberDef.{MemberDef}
use Rattle.schema_types.specs.declared.messages.MessageDef.{MessageDef}
use Rattle.schema_types.specs.declared.messages.FieldDef.{FieldDef}
use Rattle.schema_types.specs.declared.messages.DataDef.{DataDef}
use Rattle.schema_types.specs.Groups.{GroupHead}
use Rattle.sbe_schema.specs.Names.{Names, Numbers}

-- what stands at a place. A value and a bit come with the primitive of their type, a member and a field with the end of what stands before it.
-- An element of a block comes with that block, and with the greatest since of the block and of the elements of its kind before it.
pub data Table : Type 0 where
  whole : Table
  type_table : TypeDef → Table
  value_table : Primitive → ValueDef → Table
  bit_table : Primitive → BitDef → Table
  member_table : ℕ → MemberDef → Table
  message_table : MessageDef → Table
  field_table : ℤ → ℕ → FieldDef → Table
  group_table : Parent → ℤ → GroupHead → Table
  data_table : Parent → ℤ → DataDef → Table

-- a table, its place, the set of the names that stand before it in its list or block, and the set of the numbers before it that must differ from its own:
-- ids of messages, of the elements of one message, values of one enum, bits of one set
pub record Place : Type 0 where
  pub path_steps : List PathStep
  pub names : Names
  pub numbers : Numbers
  pub table : Table

-- the key of a list in the text of a schema
abbrev pub key_of : TableArray → List ℕ
key_of Types = codes "type"
key_of Values = codes "values"
key_of Bits = codes "bits"
key_of Members = codes "members"
key_of Messages = codes "message"
key_of Fields = codes "fields"
key_of Groups = codes "groups"
key_of Data = codes "data"

-- a place as the steps that lead to it
abbrev pub path_of : List PathStep → List Step
path_of [] = []
path_of (path_step ∷ path_steps) = Key (key_of path_step.array) ∷ At path_step.at ∷ path_of path_steps
