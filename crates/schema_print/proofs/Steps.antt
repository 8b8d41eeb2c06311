-- Steps of a reader over the keys of a table: what a reading that went well says of each, and how to read again what
-- was written.
use Rattle.std.proofs.Common.{◌≡◌, ℕ, ◌+◌, true, List, [], ◌∷◌, map, Option, Some, None, option_map, Ok, Err, Ordering, Less, Equal, Greater, nat_cmp, refl, subst, ◌∙◌}
use Rattle.std.specs.Cmp.Lexicographic.{slice_cmp}
use Rattle.std.specs.Ordering.{match_ordering}
use Rattle.sbe_value.specs.declared.path.Step.{Step}
use Rattle.sbe_value.specs.declared.path.Step.TheVariants.{Key, At}
use Rattle.toml.specs.Data.{Data, string, integer, float, boolean, datetime, array, table, Items, no_items, item, Members, no_members, member, get_member}
use Rattle.toml.specs.View.{items_of}
use Rattle.toml_walk.specs.Reading.{Read, ◌>>=◌, under}
use Rattle.toml_walk.specs.Keys.{required, required_of, get_or_default, get_or_default_of, optional, optional_of, elements, list_of, table_of, deny_unknown_keys, unless_unknown, unknown_member}
use Rattle.schema_print.specs.Written.{Pairs, with_keys, table_by, list_data}
use Rattle.schema_print.proofs.Sound.{Sound, SoundItems, SoundMembers}
use Rattle.schema_print.proofs.WithKeys.{found, pick, get-with_keys, all_known, unknown-with_keys}

-- what is written of each value that is read of sound data is read back
abbrev pub Back : {A : Type 0} → (Data → Read A) → (A → Data) → Type 0
Back {A} read write = (d : Data) (a : A) → Sound d → read d ≡ Ok a → read (write a) ≡ Ok a

-- the same of a value, if it is there
abbrev pub IfBack : {A : Type 0} → (Data → Read A) → (A → Data) → Option A → Type 0
IfBack read write None = Unit {0}
IfBack read write (Some a) = read (write a) ≡ Ok a

abbrev pub SoundOption : Option Data → Type 0
SoundOption None = Unit {0}
SoundOption (Some d) = Sound d

member_by : (o : Ordering) (d : Data) (rest : Option Data) → Sound d → SoundOption rest → SoundOption (match_ordering o rest (Some d) rest)
member_by Less d rest here more = more
member_by Equal d rest here more = here
member_by Greater d rest here more = more

member_sound : (key : List ℕ) (ms : Members) → SoundMembers ms → SoundOption (get_member key ms)
member_sound key no_members all = tt
member_sound key (member k d ms) all = member_by (slice_cmp nat_cmp key k) d (get_member key ms) all.0 (member_sound key ms all.1)

-- ---- what went well

abbrev pub given : {A : Type 0} → A → Read A
given a = Ok a

pub ok_value : {A : Type 0} (a b : A) → given a ≡ Ok b → a ≡ b
ok_value a b same = cc

pub bind_inv : {A B G : Type 0} (r : Read A) (next : A → Read B) (b : B) → (r >>= next) ≡ Ok b → ((a : A) → r ≡ Ok a → next a ≡ Ok b → G) → G
bind_inv (Ok a) next b went so = so a refl went
bind_inv (Err fault) next b went so = absurd cc

pub under_inv : {A B G : Type 0} (step : Step) (r : Read A) (next : A → Read B) (b : B) → (under step r >>= next) ≡ Ok b → ((a : A) → r ≡ Ok a → next a ≡ Ok b → G) → G
under_inv step (Ok a) next b went so = so a refl went
under_inv step (Err fault) next b went so = absurd cc

required_by : {A B G : Type 0} (key : List ℕ) (read : Data → Read A) (write : A → Data) (o : Option Data) → SoundOption o → (next : A → Read B) (b : B) → Back read write
    → (required_of key read o >>= next) ≡ Ok b → ((a : A) → read (write a) ≡ Ok a → next a ≡ Ok b → G) → G
required_by key read write None sound next b back went so = absurd cc
required_by key read write (Some d) sound next b back went so = under_inv (Key key) (read d) next b went (λ a same more. so a (back d a sound same) more)

pub required_inv : {A B G : Type 0} (key : List ℕ) (read : Data → Read A) (write : A → Data) (ms : Members) → SoundMembers ms → (next : A → Read B) (b : B) → Back read write
    → (required key read (table ms) >>= next) ≡ Ok b → ((a : A) → read (write a) ≡ Ok a → next a ≡ Ok b → G) → G
required_inv key read write ms sound = required_by key read write (get_member key ms) (member_sound key ms sound)

get_or_default_by : {A B G : Type 0} (key : List ℕ) (default : A) (read : Data → Read A) (write : A → Data) (o : Option Data) → SoundOption o → (next : A → Read B) (b : B) → Back read write → read (write default) ≡ Ok default
    → (get_or_default_of key default read o >>= next) ≡ Ok b → ((a : A) → read (write a) ≡ Ok a → next a ≡ Ok b → G) → G
get_or_default_by key default read write None sound next b back ready went so = so default ready went
get_or_default_by key default read write (Some d) sound next b back ready went so = under_inv (Key key) (read d) next b went (λ a same more. so a (back d a sound same) more)

pub get_or_default_inv : {A B G : Type 0} (key : List ℕ) (default : A) (read : Data → Read A) (write : A → Data) (ms : Members) → SoundMembers ms → (next : A → Read B) (b : B) → Back read write → read (write default) ≡ Ok default
    → (get_or_default key default read (table ms) >>= next) ≡ Ok b → ((a : A) → read (write a) ≡ Ok a → next a ≡ Ok b → G) → G
get_or_default_inv key default read write ms sound = get_or_default_by key default read write (get_member key ms) (member_sound key ms sound)

some_by : {A B G : Type 0} (key : List ℕ) (read : Data → Read A) (write : A → Data) (d : Data) → Sound d → (r : Read A) (next : Option A → Read B) (b : B) → Back read write → read d ≡ r
    → ((under (Key key) r >>= (λ a. Ok (Some a))) >>= next) ≡ Ok b → ((o : Option A) → IfBack read write o → next o ≡ Ok b → G) → G
some_by key read write d sound (Ok a) next b back same went so = so (Some a) (back d a sound same) went
some_by key read write d sound (Err fault) next b back same went so = absurd cc

optional_by : {A B G : Type 0} (key : List ℕ) (read : Data → Read A) (write : A → Data) (o : Option Data) → SoundOption o → (next : Option A → Read B) (b : B) → Back read write
    → (optional_of key read o >>= next) ≡ Ok b → ((o : Option A) → IfBack read write o → next o ≡ Ok b → G) → G
optional_by key read write None sound next b back went so = so None tt went
optional_by key read write (Some d) sound next b back went so = some_by key read write d sound (read d) next b back refl went so

pub optional_inv : {A B G : Type 0} (key : List ℕ) (read : Data → Read A) (write : A → Data) (ms : Members) → SoundMembers ms → (next : Option A → Read B) (b : B) → Back read write
    → (optional key read (table ms) >>= next) ≡ Ok b → ((o : Option A) → IfBack read write o → next o ≡ Ok b → G) → G
optional_inv key read write ms sound = optional_by key read write (get_member key ms) (member_sound key ms sound)

deny_unknown_keys_by : {B : Type 0} (o : Option (List ℕ)) (next : Unit {0} → Read B) (b : B) → (unless_unknown o >>= next) ≡ Ok b → next tt ≡ Ok b
deny_unknown_keys_by None next b went = went
deny_unknown_keys_by (Some key) next b went = absurd cc

pub deny_unknown_keys_inv : {B : Type 0} (known : List (List ℕ)) (ms : Members) (next : Unit {0} → Read B) (b : B) → (deny_unknown_keys known (table ms) >>= next) ≡ Ok b → next tt ≡ Ok b
deny_unknown_keys_inv known ms = deny_unknown_keys_by (unknown_member known ms)

pub table_inv : {A G : Type 0} (read : Data → Read A) (d : Data) (a : A) → Sound d → table_of read d ≡ Ok a → ((ms : Members) → SoundMembers ms → read (table ms) ≡ Ok a → G) → G
table_inv read (table ms) a sound went so = so ms sound went
table_inv read (array ds) a sound went so = absurd cc
table_inv read (string s) a sound went so = absurd cc
table_inv read (integer z) a sound went so = absurd cc
table_inv read (float x) a sound went so = absurd cc
table_inv read (boolean x) a sound went so = absurd cc
table_inv read (datetime x) a sound went so = absurd cc

-- ---- reading again

found_by : (key : List ℕ) (ps : Pairs) (o : Option Data) → found key ps None ≡ o → get_member key (with_keys no_members ps) ≡ o
found_by key ps o same = get-with_keys key ps no_members ∙ same

pub required_is : {A : Type 0} (key : List ℕ) (read : Data → Read A) (d : Data) (ps : Pairs) (a : A) → found key ps None ≡ Some d → read d ≡ Ok a → required key read (table_by ps) ≡ Ok a
required_is key read d ps a at again = rw (found_by key ps (Some d) at, again) refl

pub get_or_default_is : {A : Type 0} (key : List ℕ) (default : A) (read : Data → Read A) (d : Data) (ps : Pairs) (a : A) → found key ps None ≡ Some d → read d ≡ Ok a → get_or_default key default read (table_by ps) ≡ Ok a
get_or_default_is key default read d ps a at again = rw (found_by key ps (Some d) at, again) refl

optional_of_is : {A : Type 0} (key : List ℕ) (read : Data → Read A) (write : A → Data) (o : Option A) → IfBack read write o → optional_of key read (pick (option_map write o) None) ≡ Ok o
optional_of_is key read write None again = refl
optional_of_is key read write (Some a) again = rw again refl

pub optional_is : {A : Type 0} (key : List ℕ) (read : Data → Read A) (write : A → Data) (ps : Pairs) (o : Option A) → found key ps None ≡ pick (option_map write o) None → IfBack read write o → optional key read (table_by ps) ≡ Ok o
optional_is key read write ps o at again = rw (found_by key ps (pick (option_map write o) None) at) (optional_of_is key read write o again)

pub deny_unknown_keys_is : (known : List (List ℕ)) (ps : Pairs) → all_known known ps ≡ true → deny_unknown_keys known (table_by ps) ≡ Ok tt
deny_unknown_keys_is known ps all = rw (unknown-with_keys known ps no_members all refl) refl

-- ---- lists

abbrev pub AllBack : {A : Type 0} → (Data → Read A) → (A → Data) → List A → Type 0
AllBack read write [] = Unit {0}
AllBack read write (a ∷ xs) = (read (write a) ≡ Ok a) × AllBack read write xs

elements_back : {A : Type 0} (read : Data → Read A) (write : A → Data) (at : ℕ) (ds : Items) (xs : List A) → Back read write → SoundItems ds → elements read at ds ≡ Ok xs → AllBack read write xs
elements_back read write at no_items xs back sound went = subst (AllBack read write) (ok_value [] xs went) tt
elements_back read write at (item d ds) xs back sound went =
    under_inv (At at) (read d) (λ a. elements read (at + 1) ds >>= (λ rest. Ok (a ∷ rest))) xs went (λ a same more.
    bind_inv (elements read (at + 1) ds) (λ rest. Ok (a ∷ rest)) xs more (λ rest went_on last.
    subst (AllBack read write) (ok_value (a ∷ rest) xs last) (back d a sound.0 same, elements_back read write (at + 1) ds rest back sound.1 went_on)))

elements_again : {A : Type 0} (read : Data → Read A) (write : A → Data) (at : ℕ) (xs : List A) → AllBack read write xs → elements read at (items_of (map write xs)) ≡ Ok xs
elements_again read write at [] back = refl
elements_again read write at (a ∷ xs) back = rw (back.0, elements_again read write (at + 1) xs back.1) refl

pub list_back : {A : Type 0} (read : Data → Read A) (write : A → Data) → Back read write → Back (list_of read) (list_data write)
list_back read write back (array ds) xs sound went = elements_again read write 0 xs (elements_back read write 0 ds xs back sound went)
list_back read write back (table ms) xs sound went = absurd cc
list_back read write back (string s) xs sound went = absurd cc
list_back read write back (integer z) xs sound went = absurd cc
list_back read write back (float x) xs sound went = absurd cc
list_back read write back (boolean x) xs sound went = absurd cc
list_back read write back (datetime x) xs sound went = absurd cc
