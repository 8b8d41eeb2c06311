-- The lines of messages with the names of their values (this project's profile).
use Rattle.std.specs.Prelude.{ℕ, bit_or, ◌^◌, ◌==◌, ◌&&◌, nat_lt, Bool, not, if◌then◌else◌, Option, Some, None, List, [], ◌∷◌, ◌++◌, slice_get, codes}
use Rattle.std.specs.Fmt.{signed_decimal}
use Rattle.std.specs.Str.{bytes_eq}
use Rattle.schema_types.specs.declared.types.BitDef.{BitDef}
use Rattle.schema_types.specs.declared.types.ValueDef.{ValueDef}
use Rattle.sbe_layout.specs.declared.items.ItemKind.{ItemKind}
use Rattle.sbe_layout.specs.declared.items.ItemKind.TheVariants.{Number, Enum, Set}
use Rattle.sbe_layout.specs.declared.listings.Listing.{Listing}
use Rattle.sbe_layout.specs.declared.listings.Listing.TheVariants.{Nothing, Values, Bits}
use Rattle.sbe_layout.specs.declared.plan.MessagePlan.{MessagePlan}
use Rattle.sbe_layout.specs.declared.plan.Plan.{Plan}
use Rattle.sbe_text.specs.Tokens.{natural_of, raw_of}
use Rattle.sbe_text.specs.Written.{raw_text}
use Rattle.text_names.specs.Quotes.{are_shown, in_quotes}
use Rattle.text_names.specs.Values.{has_bit, has_meaning}
use Rattle.text_names.specs.Paths.{meaning_of}
use Rattle.text_names.specs.Lines.{Line, empty, words, element, line_of, layout_from}
use Rattle.text_names.specs.declared.path.Meaning.{Meaning}
use Rattle.text_names.specs.declared.path.Meaning.TheVariants as meaning

-- ---- values

-- the name of the first value of an enum that has this number; none is a word with a meaning of its own
abbrev pub named_number : List ValueDef → List ℕ → List ℕ
named_number [] text = text
named_number (v ∷ vs) text = if bytes_eq (signed_decimal v.value) text && not (has_meaning v.name) then v.name else named_number vs text

-- a choice that is in a number, with such a name
abbrev pub is_in : ℕ → BitDef → Bool
is_in number b = has_bit number b.bit && not (has_meaning b.name)

-- their names, in the order of the schema, and a number with their bits
abbrev pub choices_in : List BitDef → ℕ → List (List ℕ)
choices_in [] number = []
choices_in (b ∷ bs) number = if is_in number b then b.name ∷ choices_in bs number else choices_in bs number

abbrev pub bits_in : List BitDef → ℕ → ℕ → ℕ
bits_in [] number so_far = so_far
bits_in (b ∷ bs) number so_far = bits_in bs number (if is_in number b then bit_or so_far (2 ^ b.bit) else so_far)

-- names with bars (124) between them, and this before the first
abbrev pub joined : List ℕ → List (List ℕ) → List ℕ
joined bar [] = []
joined bar (w ∷ ws) = bar ++ w ++ joined (124 ∷ []) ws

-- the names of a number above 0 that has the bits of these alone
abbrev pub named_choices : List BitDef → List ℕ → Option ℕ → List ℕ
named_choices bits text None = text
named_choices bits text (Some number) =
    if nat_lt 0 number && bits_in bits number 0 == number then joined [] (choices_in bits number) else text

abbrev pub short : Option ℕ → Option ℕ
short None = None
short (Some number) = if nat_lt number (2 ^ 64) then Some number else None

abbrev pub named_by : Option Listing → List ℕ → List ℕ
named_by None text = text
named_by (Some Nothing) text = text
named_by (Some (Values values)) text = named_number values text
named_by (Some (Bits bits)) text = named_choices bits text (short (natural_of text))

abbrev pub named_item : List Listing → ItemKind → List ℕ → List ℕ
named_item listings (Number prim length null low high) text = text
named_item listings (Enum prim at) text = named_by (slice_get listings at) text
named_item listings (Set prim at) text = named_by (slice_get listings at) text

-- bytes that may be shown stand in quotes
abbrev pub named_datum : List ℕ → Option (List ℕ) → List ℕ
named_datum text None = text
named_datum text (Some bytes) = if are_shown bytes && bytes_eq (raw_text bytes) text then in_quotes bytes else text

-- a value with its names, by what its path names
abbrev pub named_value : List Listing → Meaning → List ℕ → List ℕ
named_value listings (meaning.Item kind) text = named_item listings kind text
named_value listings meaning.Datum text = named_datum text (raw_of text)
named_value listings meaning.Other text = text

-- ---- lines

abbrev pub named_by_line : Plan → Option MessagePlan → Line → (Option MessagePlan → List ℕ) → List ℕ
named_by_line schema layout empty more = more layout
named_by_line schema layout (words w) more = w ++ 10 ∷ more (layout_from schema layout w)
named_by_line schema layout (element path value) more =
    path ++ codes " = " ++ named_value schema.listings (meaning_of layout path) value ++ 10 ∷ more layout

-- some lines with names, by the message that was named last
abbrev pub named_lines : Plan → Option MessagePlan → List (List ℕ) → List ℕ
named_lines schema layout [] = []
named_lines schema layout (l ∷ ls) = named_by_line schema layout (line_of l) (λ following. named_lines schema following ls)

-- the lines of messages with names
abbrev pub named_text : Plan → List (List ℕ) → List ℕ
named_text schema lines = named_lines schema None lines
