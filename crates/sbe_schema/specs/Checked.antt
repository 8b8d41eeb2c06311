-- A checked schema: none of the eleven faults occurs. Else the least that occurs, at the first table of the walk that breaks its rule.
use Rattle.std.specs.Prelude.{◌≡◌, ◌⊎◌, IsTrue, Bool, true, false, not, ◌&&◌, if◌then◌else◌, Option, Some, None, List, [], ◌∷◌}
use Rattle.std.specs.Option.{option_map}
use Rattle.std.specs.List.{list_any}
use Rattle.sbe_value.specs.declared.path.Step.{Step}
use Rattle.sbe_schema.specs.declared.fault.SchemaKind.{SchemaKind}
use Rattle.sbe_schema.specs.declared.fault.SchemaKind.TheVariants.{DuplicateName, DuplicateId, UnknownType, BadOffset, ShortLength, BadEnum, BadSet, BadDimension, BadData, IllegalExtension, OverLimit, Memory}
use Rattle.sbe_schema.specs.declared.fault.SchemaFault.{SchemaFault}
use Rattle.schema_types.specs.declared.schema.Schema.{Schema}
use Rattle.sbe_schema.specs.Names.{Names, Numbers}
use Rattle.sbe_schema.specs.Places.{Place, Table, path_of}
use Rattle.sbe_schema.specs.Walk.{walk}
use Rattle.sbe_schema.specs.Identity.{is_duplicate_name, is_duplicate_id, is_unknown_type}
use Rattle.sbe_schema.specs.Layout.{is_bad_offset, is_short_length}
use Rattle.sbe_schema.specs.Kinds.{is_bad_enum, is_bad_set, is_bad_dimension, is_bad_data}
use Rattle.sbe_schema.specs.Versions.{is_illegal_extension}
use Rattle.sbe_schema.specs.Limits.{is_over_limit}
use Rattle.sbe_schema.specs.Faults.{has_fault}

-- the rules, the least first
abbrev pub rules_in_order : List SchemaKind
rules_in_order =
    DuplicateName ∷ DuplicateId ∷ UnknownType ∷ BadOffset ∷ ShortLength ∷ BadEnum ∷ BadSet ∷ BadDimension ∷ BadData ∷ IllegalExtension ∷ OverLimit ∷ []

abbrev pub has_none_of : Schema → List SchemaKind → Bool
has_none_of s [] = true
has_none_of s (kind ∷ kinds) = not (has_fault s kind) && has_none_of s kinds

-- a checked schema: none of the eleven faults occurs
unfoldable pub is_checked : Schema → Bool
is_checked s = has_none_of s rules_in_order

abbrev pub least_in : Schema → List SchemaKind → Option SchemaKind
least_in s [] = None
least_in s (kind ∷ kinds) = if has_fault s kind then Some kind else least_in s kinds

-- the least fault that occurs
unfoldable pub least_fault : Schema → Option SchemaKind
least_fault s = least_in s rules_in_order

-- ---- the walk

-- a table breaks a rule, where these names and numbers stand before it
abbrev pub breaks : Schema → SchemaKind → Names → Numbers → Table → Bool
breaks schema DuplicateName names numbers table = is_duplicate_name names table
breaks schema DuplicateId names numbers table = is_duplicate_id numbers table
breaks schema UnknownType names numbers table = is_unknown_type schema.types table
breaks schema BadOffset names numbers table = is_bad_offset schema.types table
breaks schema ShortLength names numbers table = is_short_length schema.types table
breaks schema BadEnum names numbers table = is_bad_enum numbers table
breaks schema BadSet names numbers table = is_bad_set numbers table
breaks schema BadDimension names numbers table = is_bad_dimension schema.types table
breaks schema BadData names numbers table = is_bad_data table
breaks schema IllegalExtension names numbers table = is_illegal_extension schema.version table
breaks schema OverLimit names numbers table = is_over_limit schema table
breaks schema Memory names numbers table = false

-- the table at a place breaks a rule
abbrev pub occurs : Schema → SchemaKind → Place → Bool
occurs schema kind p = breaks schema kind p.names p.numbers p.table

-- the first place that breaks a rule
abbrev pub first_place : Schema → SchemaKind → List Place → Option (List Step)
first_place schema kind [] = None
first_place schema kind (p ∷ ps) = if occurs schema kind p then Some (path_of p.path_steps) else first_place schema kind ps

abbrev pub fault : SchemaKind → List Step → SchemaFault
fault kind path = record { kind = kind; path = path }

abbrev pub at_first : SchemaKind → Option (List Step) → Option SchemaFault → Option SchemaFault
at_first kind (Some path) others = Some (fault kind path)
at_first kind None others = others

-- the least of some rules that is broken, at the first place that breaks it
abbrev pub least_of_rules : Schema → List SchemaKind → List Place → Option SchemaFault
least_of_rules schema [] places = None
least_of_rules schema (kind ∷ kinds) places = at_first kind (first_place schema kind places) (least_of_rules schema kinds places)

-- what the check reports of a schema, if anything
unfoldable pub fault_of : Schema → Option SchemaFault
fault_of schema = least_of_rules schema rules_in_order (walk schema)

-- what a refusal says: want of memory with the empty path, or the least fault at its first place
abbrev pub Explains : Schema → SchemaFault → Type 0
Explains schema found = ((found.kind ≡ Memory) × (found.path ≡ [])) ⊎ (fault_of schema ≡ Some found)

-- what a refusal says of the schema's own lists: a fault other than want of memory is the least that occurs
abbrev pub IsLeast : Schema → SchemaFault → Type 0
IsLeast schema found = (found.kind ≡ Memory) ⊎ (least_fault schema ≡ Some found.kind)

-- the walk finds a fault at some table exactly where the fault occurs
abbrev pub WalkFinds : Schema → Type 0
WalkFinds schema = (kind : SchemaKind) → list_any (occurs schema kind) (walk schema) ≡ has_fault schema kind

-- the walk finds none exactly where the schema is checked, and else the least that occurs
abbrev pub FaultTells : Schema → Type 0
FaultTells schema = (IsTrue (is_checked schema) → fault_of schema ≡ None) × (fault_of schema ≡ None → IsTrue (is_checked schema))

abbrev pub KindTells : Schema → Type 0
KindTells schema = option_map (λ found. found.kind) (fault_of schema) ≡ least_fault schema
