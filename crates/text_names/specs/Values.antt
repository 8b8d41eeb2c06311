-- The strict text of a value that a person wrote, by what its path names (this project's profile).
use Rattle.std.specs.Prelude.{ℕ, bit_or, ◌/◌, ◌%◌, ◌^◌, ◌==◌, ◌&&◌, ◌||◌, nat_le, nat_lt, Bool, false, not, if◌then◌else◌, Option, Some, None, Result, Ok, Err, List, [], ◌∷◌, slice_get, codes, decimal}
use Rattle.std.specs.Fmt.{signed_decimal}
use Rattle.std.specs.Str.{bytes_eq}
use Rattle.text_words.specs.Lines.{in_first}
use Rattle.schema_types.specs.declared.types.BitDef.{BitDef}
use Rattle.schema_types.specs.declared.types.ValueDef.{ValueDef}
use Rattle.sbe_schema.specs.Kinds.{is_char}
use Rattle.sbe_value.specs.declared.item.Item.TheVariants.{Text}
use Rattle.sbe_layout.specs.declared.items.ItemKind.{ItemKind}
use Rattle.sbe_layout.specs.declared.items.ItemKind.TheVariants.{Number, Enum, Set}
use Rattle.sbe_layout.specs.declared.listings.Listing.{Listing}
use Rattle.sbe_layout.specs.declared.listings.Listing.TheVariants.{Nothing, Values, Bits}
use Rattle.sbe_text.specs.Written.{raw_text, value_text}
use Rattle.text_names.specs.Bare.{trimmed}
use Rattle.text_names.specs.Called.{uncalled}
use Rattle.text_names.specs.Quotes.{Unquoted, unquoted}
use Rattle.text_names.specs.declared.mistake.Wrong.{Wrong}
use Rattle.text_names.specs.declared.mistake.Wrong.TheVariants as wrong
use Rattle.text_names.specs.declared.path.Meaning.{Meaning}
use Rattle.text_names.specs.declared.path.Meaning.TheVariants as meaning

-- something, or what is wrong and the word that is
abbrev pub Told : Type 0 → Type 0
Told A = Result A (Wrong × List ℕ)

abbrev pub told_by : {A B : Type 0} → (A → B) → Told A → Told B
told_by made (Ok a) = Ok (made a)
told_by made (Err slip) = Err slip

-- ---- names

-- a letter or `_` (95)
abbrev pub begins_name : ℕ → Bool
begins_name b = ((nat_le 65 b && nat_le b 90) || (nat_le 97 b && nat_le b 122)) || b == 95

abbrev pub has_meaning : List ℕ → Bool
has_meaning text = bytes_eq text (codes "null") || bytes_eq text (codes "absent")

-- a value that begins as a name, and is no word with a meaning of its own
abbrev pub is_named : List ℕ → Bool
is_named [] = false
is_named (b ∷ bs) = begins_name b && not (has_meaning (b ∷ bs))

-- the number of the first value of an enum that has the name
abbrev pub number_named : List ValueDef → List ℕ → Told (List ℕ)
number_named [] name = Err (wrong.Value, name)
number_named (v ∷ vs) name = if bytes_eq v.name name then Ok (signed_decimal v.value) else number_named vs name

-- the place of the first choice of a set that has the name; a number has 128 bits
abbrev pub bit_named : List BitDef → List ℕ → Option ℕ
bit_named [] name = None
bit_named (b ∷ bs) name = if bytes_eq b.name name then (if nat_lt b.bit 128 then Some b.bit else None) else bit_named bs name

-- the parts between such bytes
abbrev pub parts_at : ℕ → List ℕ → List (List ℕ)
parts_at byte [] = [] ∷ []
parts_at byte (b ∷ bs) = if b == byte then [] ∷ parts_at byte bs else in_first b (parts_at byte bs)

abbrev pub has_bit : ℕ → ℕ → Bool
has_bit number bit = number / 2 ^ bit % 2 == 1

-- a number and a bit more
abbrev pub with_bit : ℕ → List ℕ → Option ℕ → Told ℕ
with_bit number word None = Err (wrong.Choice, word)
with_bit number word (Some bit) = if has_bit number bit then Err (wrong.Twice, word) else Ok (bit_or number (2 ^ bit))

abbrev pub and_on : Told ℕ → (ℕ → Told ℕ) → Told ℕ
and_on (Ok number) more = more number
and_on (Err slip) more = Err slip

-- a number with the bits of these choices
abbrev pub with_choices : List BitDef → List (List ℕ) → ℕ → Told ℕ
with_choices bits [] number = Ok number
with_choices bits (w ∷ ws) number = and_on (with_bit number (trimmed w) (bit_named bits (trimmed w))) (with_choices bits ws)

-- the number of the choices that stand between bars (124)
abbrev pub number_of_choices : List BitDef → List ℕ → Told (List ℕ)
number_of_choices bits text = told_by decimal (with_choices bits (parts_at 124 text) 0)

abbrev pub listed : Option Listing → List ℕ → Told (List ℕ)
listed None text = Ok text
listed (Some Nothing) text = Ok text
listed (Some (Values values)) text = number_named values text
listed (Some (Bits bits)) text = number_of_choices bits text

abbrev pub listed_number : Option Listing → List ℕ → Told (List ℕ)
listed_number listing text = if is_named text then listed listing text else Ok (uncalled listing text)

-- ---- text in quotes

-- what is made of the bytes of a text in quotes; what begins with no quote stays
abbrev pub by_quotes : (List ℕ → Told (List ℕ)) → List ℕ → Option Unquoted → Told (List ℕ)
by_quotes made text None = Ok text
by_quotes made text (Some (Ok bytes)) = made bytes
by_quotes made text (Some (Err w)) = Err (w, text)

-- the number of the one byte
abbrev pub single : List ℕ → List ℕ → Told (List ℕ)
single text [] = Err (wrong.Single, text)
single text (b ∷ []) = Ok (decimal b)
single text (b ∷ c ∷ cs) = Err (wrong.Single, text)

abbrev pub character : List ℕ → Told (List ℕ)
character text = by_quotes (single text) text (unquoted text)

abbrev pub array : List ℕ → Told (List ℕ)
array text = by_quotes (λ bytes. Ok (value_text (Text bytes))) text (unquoted text)

abbrev pub datum : List ℕ → Told (List ℕ)
datum text = by_quotes (λ bytes. Ok (raw_text bytes)) text (unquoted text)

-- ---- values

-- an array has a length of 2 or more
abbrev pub item_value : List Listing → ItemKind → List ℕ → Told (List ℕ)
item_value listings (Number prim length null low high) text =
    if is_char prim then (if nat_le 2 length then array text else character text) else Ok text
item_value listings (Enum prim at) text =
    if is_named text then listed (slice_get listings at) text
    else (if is_char prim then character (uncalled (slice_get listings at) text) else Ok (uncalled (slice_get listings at) text))
item_value listings (Set prim at) text = listed_number (slice_get listings at) text

abbrev pub strict_value : List Listing → Meaning → List ℕ → Told (List ℕ)
strict_value listings (meaning.Item kind) text = item_value listings kind text
strict_value listings meaning.Datum text = datum text
strict_value listings meaning.Other text = Ok text
