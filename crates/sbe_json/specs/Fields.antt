-- The elements of a message as members of a JSON object, in schema order (RFC 8259; this project's profile). An element that is absent has none.
use Rattle.std.specs.Prelude.{ℕ, ◌/◌, ◌%◌, ◌^◌, ◌==◌, ◌&&◌, ℤ, pos, negsuc, Bool, true, false, not, if◌then◌else◌, Option, Some, None, List, [], ◌∷◌, ◌++◌, slice_get, codes, encode_utf8_all}
use Rattle.std.specs.Fmt.{signed_decimal}
use Rattle.std.specs.Ordering.{int_eq}
use Rattle.hex.specs.Hex.{encode_lower}
use Rattle.json.specs.Token.{Token, begin_object, end_object, begin_array, end_array, key, string, number, null}
use Rattle.sbe_prim.specs.declared.Primitive.{Primitive}
use Rattle.sbe_prim.specs.declared.Primitive.TheVariants.{Char, Int8, Int16, Int32, Int64, UInt8, UInt16, UInt32, UInt64, Float, Double}
use Rattle.sbe_prim.specs.Primitives.{holds}
use Rattle.schema_types.specs.declared.types.BitDef.{BitDef}
use Rattle.schema_types.specs.declared.types.ValueDef.{ValueDef}
use Rattle.sbe_value.specs.declared.item.Item.{Item}
use Rattle.sbe_value.specs.declared.item.Item.TheVariants.{Num, Null, Absent, Text, Raw}
use Rattle.sbe_value.specs.declared.datum.Datum.{Datum}
use Rattle.sbe_value.specs.declared.datum.Datum.TheVariants as datum
use Rattle.sbe_value.specs.declared.message.Message.{Message}
use Rattle.sbe_value.specs.Trees.{GroupList, BlockList, no_groups, absent, entries, no_blocks, block}
use Rattle.sbe_layout.specs.declared.items.ItemPlan.{ItemPlan}
use Rattle.sbe_layout.specs.declared.items.ItemKind.{ItemKind}
use Rattle.sbe_layout.specs.declared.items.ItemKind.TheVariants.{Number, Enum, Set}
use Rattle.sbe_layout.specs.declared.listings.Listing.{Listing}
use Rattle.sbe_layout.specs.declared.listings.Listing.TheVariants.{Nothing, Values, Bits}
use Rattle.sbe_layout.specs.declared.items.DataPlan.{DataPlan}
use Rattle.sbe_layout.specs.declared.plan.MessagePlan.{MessagePlan}
use Rattle.sbe_layout.specs.declared.plan.Plan.{Plan}
use Rattle.sbe_layout.specs.Trees.{PlanHead, PlanTree, no_plans, plan}
use Rattle.sbe_layout.specs.Plans.{message_of}

-- ---- texts

-- bytes as a text: each is the character of its number (ISO 8859-1), in UTF-8
abbrev pub text_of : List ℕ → List ℕ
text_of bytes = encode_utf8_all bytes

-- ---- numbers

-- many readers of JSON keep no 64 bits of a number
abbrev pub is_wide : Primitive → Bool
is_wide Char = false
is_wide Int8 = false
is_wide Int16 = false
is_wide Int32 = false
is_wide Int64 = true
is_wide UInt8 = false
is_wide UInt16 = false
is_wide UInt32 = false
is_wide UInt64 = true
is_wide Float = false
is_wide Double = false

-- a number of 64 bits, or one that its type does not have, is a text of its digits
abbrev pub number_token : Primitive → ℤ → Token
number_token prim z = if not (is_wide prim) && holds Int64 z then number (signed_decimal z) else string (signed_decimal z)

-- ---- names

-- the first value of an enum that has this number gives its name; one that is not listed is a number
abbrev pub value_token : Primitive → ℤ → List ValueDef → Token
value_token prim z [] = number_token prim z
value_token prim z (v ∷ vs) = if int_eq v.value z then string (text_of v.name) else value_token prim z vs

-- the names of the bits that are set in a number, in the order of the schema
abbrev pub bit_tokens : ℕ → List BitDef → List Token
bit_tokens n [] = []
bit_tokens n (b ∷ bs) = (if n / 2 ^ b.bit % 2 == 1 then string (text_of b.name) ∷ [] else []) ++ bit_tokens n bs

abbrev pub set_tokens : ℤ → List BitDef → List Token
set_tokens (pos n) bits = bit_tokens n bits
set_tokens (negsuc n) bits = []

-- a set is an object of its number and the names of its bits
abbrev pub set_object : Primitive → ℤ → List BitDef → List Token
set_object prim z bits =
    begin_object ∷ key (codes "value") ∷ number_token prim z ∷ key (codes "names") ∷ begin_array ∷ (set_tokens z bits ++ end_array ∷ end_object ∷ [])

abbrev pub listed_tokens : Primitive → ℤ → Option Listing → List Token
listed_tokens prim z None = number_token prim z ∷ []
listed_tokens prim z (Some Nothing) = number_token prim z ∷ []
listed_tokens prim z (Some (Values values)) = value_token prim z values ∷ []
listed_tokens prim z (Some (Bits bits)) = set_object prim z bits

-- ---- values

abbrev pub number_tokens : List Listing → ItemKind → ℤ → List Token
number_tokens listings (Number prim count unset low high) z = number_token prim z ∷ []
number_tokens listings (Enum prim at) z = listed_tokens prim z (slice_get listings at)
number_tokens listings (Set prim at) z = listed_tokens prim z (slice_get listings at)

-- the member of an item: an array of characters is a text, and what is carried as bytes stands in lower-case hexadecimal
abbrev pub item_tokens : List Listing → ItemPlan → Item → List Token
item_tokens listings p (Num z) = key (text_of p.name) ∷ number_tokens listings p.kind z
item_tokens listings p Null = key (text_of p.name) ∷ null ∷ []
item_tokens listings p Absent = []
item_tokens listings p (Text text) = key (text_of p.name) ∷ string (text_of text) ∷ []
item_tokens listings p (Raw bytes) = key (text_of p.name) ∷ string (encode_lower bytes) ∷ []

abbrev pub datum_tokens : DataPlan → Datum → List Token
datum_tokens d datum.Absent = []
datum_tokens d (datum.Present bytes) = key (text_of d.name) ∷ string (encode_lower bytes) ∷ []

-- ---- the elements of a block: its items, its groups, its data

abbrev pub tokens_of_items : List Listing → List Item → List ItemPlan → List Token
tokens_of_items listings is [] = []
tokens_of_items listings [] (p ∷ ps) = []
tokens_of_items listings (i ∷ is) (p ∷ ps) = item_tokens listings p i ++ tokens_of_items listings is ps

abbrev pub tokens_of_data : List Datum → List DataPlan → List Token
tokens_of_data vs [] = []
tokens_of_data [] (d ∷ ds) = []
tokens_of_data (v ∷ vs) (d ∷ ds) = datum_tokens d v ++ tokens_of_data vs ds

abbrev mutual
  -- each group is an array
  pub group_tokens : List Listing → GroupList → PlanTree → List Token
  group_tokens listings gs no_plans = []
  group_tokens listings no_groups (plan g inner rest) = []
  group_tokens listings (absent gs) (plan g inner rest) = group_tokens listings gs rest
  group_tokens listings (entries bs gs) (plan g inner rest) =
      (key (text_of g.name) ∷ begin_array ∷ (entry_tokens listings bs g inner ++ end_array ∷ [])) ++ group_tokens listings gs rest

  -- of objects, one an entry
  pub entry_tokens : List Listing → BlockList → PlanHead → PlanTree → List Token
  entry_tokens listings no_blocks g inner = []
  entry_tokens listings (block items gs vars bs) g inner =
      (begin_object ∷ (tokens_of_items listings items g.items ++ group_tokens listings gs inner ++ tokens_of_data vars g.vars ++ end_object ∷ []))
      ++ entry_tokens listings bs g inner

-- ---- messages

-- two members: the message's name, and its elements
abbrev pub message_tokens : List Listing → Message → Option MessagePlan → List Token
message_tokens listings m None = []
message_tokens listings m (Some layout) =
    key (codes "message") ∷ string (text_of layout.name) ∷ key (codes "fields") ∷ begin_object
    ∷ (tokens_of_items listings m.root.items layout.root.items ++ group_tokens listings m.root.groups layout.root.groups
    ++ tokens_of_data m.root.vars layout.root.vars ++ end_object ∷ [])

abbrev pub tokens_of_message : Plan → Message → List Token
tokens_of_message schema m = message_tokens schema.listings m (message_of m.template schema.messages)
