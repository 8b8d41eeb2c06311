-- The keys of a table, in the order in which they are visited: at each key whether it is missing, then what lies
-- at it; behind the last one the first key that is none of them, in the order of the keys' bytes.
use Rattle.std.specs.Prelude.{ℕ, ◌+◌, Bool, true, false, if◌then◌else◌, Option, Some, None, List, [], ◌∷◌, Ok, Err}
use Rattle.std.specs.Str.{bytes_eq}
use Rattle.sbe_value.specs.declared.path.Step.TheVariants.{Key, At}
use Rattle.toml.specs.Data.{Data, array, table, get, Items, no_items, item, Members, no_members, member, as_array, as_table}
use Rattle.toml_walk.specs.declared.fault.TomlFault.TheVariants.{Missing, WrongKind, UnknownKey}
use Rattle.toml_walk.specs.Reading.{Read, ◌>>=◌, under}

module _ {A : Type 0} where
  abbrev pub required_of : List ℕ → (Data → Read A) → Option Data → Read A
  required_of key read None = Err (Missing (Key key ∷ []))
  required_of key read (Some d) = under (Key key) (read d)

  -- what lies at a key that has to be there
  abbrev pub required : List ℕ → (Data → Read A) → Data → Read A
  required key read keys = required_of key read (get key keys)

  abbrev pub get_or_default_of : List ℕ → A → (Data → Read A) → Option Data → Read A
  get_or_default_of key default read None = Ok default
  get_or_default_of key default read (Some d) = under (Key key) (read d)

  -- what lies at a key, or the default where the key is absent
  abbrev pub get_or_default : List ℕ → A → (Data → Read A) → Data → Read A
  get_or_default key default read keys = get_or_default_of key default read (get key keys)

  abbrev pub optional_of : List ℕ → (Data → Read A) → Option Data → Read (Option A)
  optional_of key read None = Ok None
  optional_of key read (Some d) = under (Key key) (read d) >>= (λ a. Ok (Some a))

  -- what lies at a key, if it is there
  abbrev pub optional : List ℕ → (Data → Read A) → Data → Read (Option A)
  optional key read keys = optional_of key read (get key keys)

  -- the elements of a list, counted from `at`
  abbrev pub elements : (Data → Read A) → ℕ → Items → Read (List A)
  elements read at no_items = Ok []
  elements read at (item d ds) = under (At at) (read d) >>= (λ a. elements read (at + 1) ds >>= (λ rest. Ok (a ∷ rest)))

  abbrev pub list_of_items : (Data → Read A) → Option Items → Read (List A)
  list_of_items read None = Err (WrongKind [])
  list_of_items read (Some ds) = elements read 0 ds

  -- a list
  abbrev pub list_of : (Data → Read A) → Data → Read (List A)
  list_of read d = list_of_items read (as_array d)

  -- a table, by its keys
  abbrev pub table_of_members : (Data → Read A) → Data → Option Members → Read A
  table_of_members read d None = Err (WrongKind [])
  table_of_members read d (Some keys) = read d

  abbrev pub table_of : (Data → Read A) → Data → Read A
  table_of read d = table_of_members read d (as_table d)

abbrev pub is_among : List ℕ → List (List ℕ) → Bool
is_among key [] = false
is_among key (k ∷ ks) = if bytes_eq k key then true else is_among key ks

-- the first of the members whose key is none of the known ones
abbrev pub unknown_member : List (List ℕ) → Members → Option (List ℕ)
unknown_member known no_members = None
unknown_member known (member key d keys) = if is_among key known then unknown_member known keys else Some key

abbrev pub unknown_in : List (List ℕ) → Option Members → Option (List ℕ)
unknown_in known None = None
unknown_in known (Some keys) = unknown_member known keys

abbrev pub unless_unknown : Option (List ℕ) → Read (Unit {0})
unless_unknown None = Ok tt
unless_unknown (Some key) = Err (UnknownKey (Key key ∷ []))

-- no key is there but the known ones
abbrev pub deny_unknown_keys : List (List ℕ) → Data → Read (Unit {0})
deny_unknown_keys known keys = unless_unknown (unknown_in known (as_table keys))
