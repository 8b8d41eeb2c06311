-- The walk finds each fault exactly where it occurs, so it finds none exactly where the schema is checked.
use Rattle.std.proofs.Common.{◌≡◌, refl, ap, ◌∙◌, Bool, true, false, not, ◌||◌, ◌&&◌, is_none, if◌then◌else◌, Option, Some, None, List, [], ◌∷◌}
use Rattle.std.specs.Option.{option_map}
use Rattle.std.specs.List.{list_any}
use Rattle.sbe_value.specs.declared.path.Step.{Step}
use Rattle.sbe_schema.specs.declared.fault.SchemaFault.{SchemaFault}
use Rattle.sbe_schema.specs.declared.fault.SchemaKind.{SchemaKind}
use Rattle.sbe_schema.specs.declared.fault.SchemaKind.TheVariants.{DuplicateName, DuplicateId, UnknownType, BadOffset, ShortLength, BadEnum, BadSet, BadDimension, BadData, IllegalExtension, OverLimit, Memory}
use Rattle.schema_types.specs.declared.schema.Schema.{Schema}
use Rattle.sbe_schema.specs.Places.{Place, path_of}
use Rattle.sbe_schema.specs.Walk.{walk}
use Rattle.sbe_schema.specs.Faults.{has_fault}
use Rattle.sbe_schema.specs.Checked.{has_none_of, least_in, occurs, first_place, at_first, least_of_rules, WalkFinds}
use Rattle.sbe_schema.proofs.Along.{any_none}
use Rattle.sbe_schema.proofs.NameFault.{names_are}
use Rattle.sbe_schema.proofs.IdFault.{ids_are}
use Rattle.sbe_schema.proofs.TypeFaults.{unknown_are, offsets_are, short_are, enums_are, sets_are, dims_are, vars_are}
use Rattle.sbe_schema.proofs.SinceFaults.{since_are, limits_are}

pub walk_finds : (s : Schema) → WalkFinds s
walk_finds s DuplicateName = names_are s
walk_finds s DuplicateId = ids_are s
walk_finds s UnknownType = unknown_are s
walk_finds s BadOffset = offsets_are s
walk_finds s ShortLength = short_are s
walk_finds s BadEnum = enums_are s
walk_finds s BadSet = sets_are s
walk_finds s BadDimension = dims_are s
walk_finds s BadData = vars_are s
walk_finds s IllegalExtension = since_are s
walk_finds s OverLimit = limits_are s
walk_finds s Memory = any_none (λ p. false) (λ p. refl) (walk s)

-- there is a first place exactly where some place breaks the rule
first_none : (s : Schema) (kind : SchemaKind) (ps : List Place) → is_none (first_place s kind ps) ≡ not (list_any (occurs s kind) ps)
first_none s kind [] = refl
first_none s kind (p ∷ ps) =
    elim (occurs s kind p) as (λ b. is_none (if b then Some (path_of p.path_steps) else first_place s kind ps) ≡ not (b || list_any (occurs s kind) ps)) [ true ↦ refl | false ↦ first_none s kind ps ]

none_first : (kind : SchemaKind) (o : Option (List Step)) (l : Option SchemaFault) → is_none (at_first kind o l) ≡ (is_none o && is_none l)
none_first kind (Some path) l = refl
none_first kind None l = refl

first_found : (s : Schema) (kind : SchemaKind) → is_none (first_place s kind (walk s)) ≡ not (has_fault s kind)
first_found s kind = first_none s kind (walk s) ∙ ap (λ b. not b) (walk_finds s kind)

pub none_of : (s : Schema) (kinds : List SchemaKind) → is_none (least_of_rules s kinds (walk s)) ≡ has_none_of s kinds
none_of s [] = refl
none_of s (kind ∷ kinds) =
    none_first kind (first_place s kind (walk s)) (least_of_rules s kinds (walk s)) ∙ (λ i. first_found s kind i && none_of s kinds i)

kind_first : (kind : SchemaKind) (o : Option (List Step)) (l : Option SchemaFault) → option_map (λ found. found.kind) (at_first kind o l) ≡ (if is_none o then option_map (λ found. found.kind) l else Some kind)
kind_first kind (Some path) l = refl
kind_first kind None l = refl

turned : (b : Bool) (kind : SchemaKind) (o : Option SchemaKind) → (if not b then o else Some kind) ≡ (if b then Some kind else o)
turned true kind o = refl
turned false kind o = refl

pub kind_of : (s : Schema) (kinds : List SchemaKind) → option_map (λ found. found.kind) (least_of_rules s kinds (walk s)) ≡ least_in s kinds
kind_of s [] = refl
kind_of s (kind ∷ kinds) =
    kind_first kind (first_place s kind (walk s)) (least_of_rules s kinds (walk s)) ∙ (λ i. if first_found s kind i then kind_of s kinds i else Some kind) ∙ turned (has_fault s kind) kind (least_in s kinds)
