-- The blocks of a schema: the root block of each message, and the block of an entry of each group at every depth (SBE 1.0, "Repeating groups").
use Rattle.std.specs.Prelude.{ℕ, suc, ℤ, Option, List, [], ◌∷◌, ◌++◌, map}
use Rattle.schema_types.specs.declared.messages.MessageDef.{MessageDef}
use Rattle.schema_types.specs.declared.messages.FieldDef.{FieldDef}
use Rattle.schema_types.specs.declared.messages.DataDef.{DataDef}
use Rattle.schema_types.specs.Groups.{GroupHead, GroupTree, no_groups, group}

-- A block: how many groups it lies in, since when it is there, the bytes that are stated, its fields, the groups right in it, its data
pub record Block : Type 0 where
  pub level : ℕ
  pub since : ℤ
  pub stated : Option ℤ
  pub fields : List FieldDef
  pub groups : List GroupHead
  pub vars : List DataDef

-- groups that stand beside each other, without those of their entries
abbrev pub heads_of : GroupTree → List GroupHead
heads_of no_groups = []
heads_of (group g inner rest) = g ∷ heads_of rest

abbrev pub entry_block : ℕ → GroupHead → GroupTree → Block
entry_block level g inner = record {
  level = suc level;
  since = g.since;
  stated = g.block_length;
  fields = g.fields;
  groups = heads_of inner;
  vars = g.vars;
}

-- the blocks of groups in a block of a level, at every depth
abbrev pub blocks_below : ℕ → GroupTree → List Block
blocks_below level no_groups = []
blocks_below level (group g inner rest) = entry_block level g inner ∷ (blocks_below (suc level) inner ++ blocks_below level rest)

abbrev pub root_block : MessageDef → Block
root_block m = record {
  level = 0;
  since = m.since;
  stated = m.block_length;
  fields = m.fields;
  groups = heads_of m.groups;
  vars = m.vars;
}

abbrev pub blocks_of_message : MessageDef → List Block
blocks_of_message m = root_block m ∷ blocks_below 0 m.groups

abbrev pub blocks_of : List MessageDef → List Block
blocks_of [] = []
blocks_of (m ∷ ms) = blocks_of_message m ++ blocks_of ms

-- ---- the elements of a block, and of a message at every depth

abbrev pub names_in_block : Block → List (List ℕ)
names_in_block b = map (λ f. f.name) b.fields ++ (map (λ g. g.name) b.groups ++ map (λ d. d.name) b.vars)

abbrev pub ids_between : List FieldDef → List ℕ → List DataDef → List ℕ
ids_between fields ids vars = map (λ f. f.id) fields ++ (ids ++ map (λ d. d.id) vars)

abbrev pub ids_in_groups : GroupTree → List ℕ
ids_in_groups no_groups = []
ids_in_groups (group g inner rest) = g.id ∷ (ids_between g.fields (ids_in_groups inner) g.vars ++ ids_in_groups rest)

abbrev pub ids_in_message : MessageDef → List ℕ
ids_in_message m = ids_between m.fields (ids_in_groups m.groups) m.vars
