-- The line that says whether one schema extends another (SBE 1.0, "Schema extension mechanism"; the line is this project's profile).
use Rattle.std.specs.Prelude.{◌≡◌, ◌⊎◌, ℕ, nat_eq, if◌then◌else◌, Option, Some, List, [], ◌∷◌, ◌++◌, codes}
use Rattle.std.specs.Option.{option_map}
use denote.Enum.Bare.{sameb}
use Rattle.sbe_prim.specs.contracts.Order as order
use Rattle.sbe_value.specs.declared.path.Step.{Step}
use Rattle.sbe_value.specs.declared.path.Step.TheVariants.{Key}
use Rattle.sbe_value.specs.PathText.{path_text}
use Rattle.schema_types.specs.declared.schema.Schema.{Schema}
use Rattle.sbe_skew.specs.Extends.{Extends, difference_of}

-- the key of a schema's text at which two schemas differ as wholes: their ids, their byte orders, or else their versions
abbrev pub differing_key : Schema → Schema → List ℕ
differing_key newer older =
    if nat_eq newer.id older.id then (if sameb order.the_type newer.order older.order then codes "version" else codes "order") else codes "id"

-- a difference of the wholes stands at that key
abbrev pub place_of : Schema → Schema → List Step → List Step
place_of newer older [] = Key (differing_key newer older) ∷ []
place_of newer older (step ∷ steps) = step ∷ steps

-- where two schemas differ first
abbrev pub first_place : Schema → Schema → Option (List Step)
first_place newer older = option_map (place_of newer older) (difference_of newer older)

-- the one schema does not extend the other, and this is where they differ first
pub record DiffersAt (newer older : Schema) (path : List Step) : Type 0 where
  pub refuted : ¬ Extends newer older
  pub first : first_place newer older ≡ Some path

-- `extends`
abbrev pub extends_line : List ℕ
extends_line = codes "extends\n"

-- `differs PATH`
abbrev pub differs_line : List Step → List ℕ
differs_line path = codes "differs " ++ path_text path ++ codes "\n"

-- the line is the answer: that the one schema extends the other, or where they differ first
abbrev pub IsAnswer : Schema → Schema → List ℕ → Type 0
IsAnswer newer older line =
    (Extends newer older × (line ≡ extends_line)) ⊎ ((path : List Step) × DiffersAt newer older path × (line ≡ differs_line path))
