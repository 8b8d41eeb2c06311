-- What numbers of enums and sets are called in a schema, each name behind a blank (this project's profile).
use Rattle.std.specs.Prelude.{ℕ, ◌/◌, ◌%◌, ◌^◌, ℤ, pos, negsuc, ◌==◌, if◌then◌else◌, Option, Some, None, List, [], ◌∷◌, ◌++◌, slice_get, codes}
use Rattle.std.specs.Ordering.{int_eq}
use Rattle.schema_types.specs.declared.types.BitDef.{BitDef}
use Rattle.schema_types.specs.declared.types.ValueDef.{ValueDef}
use Rattle.sbe_value.specs.declared.item.Item.{Item}
use Rattle.sbe_value.specs.declared.item.Item.TheVariants.{Num, Null, Absent, Text, Raw}
use Rattle.sbe_layout.specs.declared.items.ItemKind.{ItemKind}
use Rattle.sbe_layout.specs.declared.items.ItemKind.TheVariants.{Number, Enum, Set}
use Rattle.sbe_layout.specs.declared.listings.Listing.{Listing}
use Rattle.sbe_layout.specs.declared.listings.Listing.TheVariants.{Nothing, Values, Bits}

-- the first value of an enum that has this number
abbrev pub value_name : ℤ → List ValueDef → List ℕ
value_name z [] = []
value_name z (v ∷ vs) = if int_eq v.value z then codes " " ++ v.name else value_name z vs

-- the bits of a set that are set in this number, in the order of the schema
abbrev pub bit_name : ℕ → BitDef → List ℕ
bit_name n b = if n / 2 ^ b.bit % 2 == 1 then codes " " ++ b.name else []

abbrev pub bit_names : ℕ → List BitDef → List ℕ
bit_names n [] = []
bit_names n (b ∷ bs) = bit_name n b ++ bit_names n bs

-- those of a number; a negative one has none
abbrev pub set_names : ℤ → List BitDef → List ℕ
set_names (pos n) bits = bit_names n bits
set_names (negsuc n) bits = []

-- what a listing says of a number
abbrev pub names_in : Option Listing → ℤ → List ℕ
names_in None z = []
names_in (Some Nothing) z = []
names_in (Some (Values values)) z = value_name z values
names_in (Some (Bits bits)) z = set_names z bits

-- a number of this type
abbrev pub number_names : List Listing → ItemKind → ℤ → List ℕ
number_names listings (Number p count null low high) z = []
number_names listings (Enum p at) z = names_in (slice_get listings at) z
number_names listings (Set p at) z = names_in (slice_get listings at) z

abbrev pub item_names : List Listing → ItemKind → Item → List ℕ
item_names listings kind (Num z) = number_names listings kind z
item_names listings kind Null = []
item_names listings kind Absent = []
item_names listings kind (Text text) = []
item_names listings kind (Raw bytes) = []

-- what an item of this type is called; without listings nothing
abbrev pub names_of : List Listing → ItemKind → Item → List ℕ
names_of [] kind i = []
names_of (l ∷ ls) kind i = item_names (l ∷ ls) kind i
