-- How a walk keeps the least fault at its first place: the best so far, and the better of it and what a place shows.
use Rattle.std.specs.Prelude.{ℕ, nat_lt, if◌then◌else◌, Option, Some, None, List, [], ◌∷◌}
use Rattle.sbe_schema.specs.declared.fault.PathStep.{PathStep}
use Rattle.sbe_schema.specs.declared.fault.SchemaFault.{SchemaFault}
use Rattle.sbe_schema.specs.declared.fault.SchemaKind.{SchemaKind}
use Rattle.sbe_schema.specs.declared.fault.SchemaKind.TheVariants.{DuplicateName, DuplicateId, UnknownType, BadOffset, ShortLength, BadEnum, BadSet, BadDimension, BadData, IllegalExtension, OverLimit, Memory}
use Rattle.schema_types.specs.declared.schema.Schema.{Schema}
use Rattle.sbe_schema.specs.Names.{Names, Numbers}
use Rattle.sbe_schema.specs.Places.{Place, Table, path_of}
use Rattle.sbe_schema.specs.Checked.{breaks, rules_in_order, fault}

-- the place of a rule among all
abbrev pub rank : SchemaKind → ℕ
rank DuplicateName = 1
rank DuplicateId = 2
rank UnknownType = 3
rank BadOffset = 4
rank ShortLength = 5
rank BadEnum = 6
rank BadSet = 7
rank BadDimension = 8
rank BadData = 9
rank IllegalExtension = 10
rank OverLimit = 11
rank Memory = 12

abbrev pub first_broken : Schema → List SchemaKind → Names → Numbers → Table → Option SchemaKind
first_broken schema [] names numbers table = None
first_broken schema (kind ∷ kinds) names numbers table =
    if breaks schema kind names numbers table then Some kind else first_broken schema kinds names numbers table

-- the least rule that a table breaks
unfoldable pub rule_of : Schema → Names → Numbers → Table → Option SchemaKind
rule_of schema names numbers table = first_broken schema rules_in_order names numbers table

abbrev pub found_at : Option SchemaKind → List PathStep → Option SchemaFault
found_at None path_steps = None
found_at (Some kind) path_steps = Some (fault kind (path_of path_steps))

-- the one of the lower rank; the first of two of one rank
abbrev pub better : Option SchemaFault → Option SchemaFault → Option SchemaFault
better None found = found
better (Some best) None = Some best
better (Some best) (Some found) = if nat_lt (rank found.kind) (rank best.kind) then Some found else Some best

abbrev pub folded : Schema → Option SchemaFault → List Place → Option SchemaFault
folded schema best [] = best
folded schema best (p ∷ ps) = folded schema (better best (found_at (rule_of schema p.names p.numbers p.table) p.path_steps)) ps
