-- A number in front of what its type calls it, as it is shown with its names (this project's profile).
use Rattle.std.specs.Prelude.{ℕ, Bool, false, if◌then◌else◌, Option, Some, None, List, [], ◌∷◌}
use Rattle.std.specs.Fmt.{signed_decimal}
use Rattle.std.specs.Str.{bytes_eq}
use Rattle.schema_types.specs.declared.types.BitDef.{BitDef}
use Rattle.schema_types.specs.declared.types.ValueDef.{ValueDef}
use Rattle.sbe_layout.specs.declared.listings.Listing.{Listing}
use Rattle.sbe_layout.specs.declared.listings.Listing.TheVariants.{Nothing, Values, Bits}
use Rattle.sbe_text.specs.Named.{bit_names}
use Rattle.sbe_text.specs.Tokens.{also, held, natural_of}
use Rattle.text_names.specs.Bare.{cut_at}

-- the first value of an enum that has the name has this number
abbrev pub is_value : List ValueDef → List ℕ → List ℕ → Bool
is_value [] number name = false
is_value (v ∷ vs) number name = if bytes_eq v.name name then bytes_eq (signed_decimal v.value) number else is_value vs number name

-- these are the names of the bits of a number that a set names, in the order of the schema and with one blank (32) between them
abbrev pub are_choices : List BitDef → List ℕ → Option ℕ → Bool
are_choices bits names None = false
are_choices bits names (Some number) = bytes_eq (bit_names number bits) (32 ∷ names)

abbrev pub is_called : Option Listing → List ℕ → List ℕ → Bool
is_called None number names = false
is_called (Some Nothing) number names = false
is_called (Some (Values values)) number names = is_value values number names
is_called (Some (Bits bits)) number names = are_choices bits names (also (natural_of number) held)

abbrev pub number_before : Option Listing → List ℕ → Option (List ℕ × List ℕ) → List ℕ
number_before listing text None = text
number_before listing text (Some p) = if is_called listing p.0 p.1 then p.0 else text

-- the number in front of its names; all else stays as it is
abbrev pub uncalled : Option Listing → List ℕ → List ℕ
uncalled listing text = number_before listing text (cut_at 32 text)
