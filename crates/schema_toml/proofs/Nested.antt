-- The groups of a group, found by their key; and how deep what is read lies.
use Rattle.std.proofs.Common.{◌≡◌, ℕ, zero, suc, ◌+◌, ◌≤◌, ◌<◌, max, cond, ℤ, List, [], ◌∷◌, ◌++◌, length, get_or, Option, Some, None, Ok, Err, false, codes, refl, ap, sym, drop, FitsSigned, to_z, of_z, ◌∙◌, arith, Ordering, Less, Equal, Greater, nat_cmp, is_eq}
use Rattle.std.specs.Int.{w128}
use Rattle.std.proofs.lemmas.Int.{to_z-of_z}
use Rattle.std.proofs.lemmas.List.{drop_all}
use Rattle.std.specs.Cmp.Lexicographic.{slice_cmp}
use Rattle.std.specs.Ordering.{match_ordering}
use Rattle.sbe_value.specs.declared.path.Step.TheVariants.{Key, At}
use Rattle.sbe_value.specs.declared.path.Step.{Step}
use Rattle.schema_types.specs.declared.groups.GroupDef.{GroupDef}
use Rattle.schema_types.specs.Groups.{GroupTree, no_groups, group}
use Rattle.schema_types.specs.Views.{head_of, groups_of as tree_of}
use Rattle.toml.specs.Data.{Data, string, integer, float, boolean, datetime, array, table, Items, no_items, item, Members, no_members, member, get, get_member, as_array, depth, items_depth, members_depth}
use Rattle.toml.specs.View.{view, items_view}
use Rattle.toml.specs.declared.value.Value.{Value}
use Rattle.toml_walk.specs.Reading.{Read, ◌>>=◌, under, deepened, is_memory, IsFault}
use Rattle.toml_walk.specs.declared.fault.TomlFault.{TomlFault}
use Rattle.toml_walk.specs.declared.fault.TomlFault.TheVariants.{Memory, Text, Missing, WrongKind, UnknownKey, Range}
use Rattle.toml.proofs.Views.{items_view-drop}
use Rattle.toml_walk.specs.Keys.{get_or_default, get_or_default_of}
use Rattle.schema_toml.specs.Messages.{GroupRead, group_keys, group_of, group_by_keys, groups_in, groups_of, groups_from}

-- a number that 128 bits hold is what its bits say
pub bits_say : (z : ℤ) → FitsSigned w128 z → to_z w128 (of_z w128 z) ≡ z
bits_say z fits = to_z-of_z w128 z fits

-- ---- by their key

by_order : (o : Ordering) (since : ℤ) (d : Data) (rest : Members) → groups_in since rest ≡ get_or_default (codes "groups") no_groups (groups_of since) (table rest)
    → cond (is_eq o) (under (Key (codes "groups")) (groups_of since d)) (groups_in since rest)
    ≡ get_or_default_of (codes "groups") no_groups (groups_of since) (match_ordering o (get_member (codes "groups") rest) (Some d) (get_member (codes "groups") rest))
by_order Less since d rest same = same
by_order Equal since d rest same = refl
by_order Greater since d rest same = same

pub in_by_key : (since : ℤ) (keys : Members) → groups_in since keys ≡ get_or_default (codes "groups") no_groups (groups_of since) (table keys)
in_by_key since no_members = refl
in_by_key since (member key d rest) = by_order (slice_cmp nat_cmp (codes "groups") key) since d rest (in_by_key since rest)

pub group_is_by_keys : (since : ℤ) (d : Data) → group_of since d ≡ group_by_keys since d
unfolding group_by_keys
group_is_by_keys since (table keys) = ap (λ inner. group_keys inner since (table keys)) (λ t own. in_by_key own keys t)
group_is_by_keys since (array ds) = refl
group_is_by_keys since (string s) = refl
group_is_by_keys since (integer z) = refl
group_is_by_keys since (float x) = refl
group_is_by_keys since (boolean b) = refl
group_is_by_keys since (datetime dt) = refl

-- ---- groups behind those that were read

abbrev pub behind : List GroupDef → GroupTree → GroupTree
behind [] rest = rest
behind (g ∷ gs) rest = group (head_of g) g.groups (behind gs rest)

pub behind_none : (gs : List GroupDef) → behind gs no_groups ≡ tree_of gs
behind_none [] = refl
behind_none (g ∷ gs) = ap (group (head_of g) g.groups) (behind_none gs)

pub behind_one : (gs : List GroupDef) (g : GroupDef) (rest : GroupTree) → behind (gs ++ g ∷ []) rest ≡ behind gs (group (head_of g) g.groups rest)
behind_one [] g rest = refl
behind_one (h ∷ gs) g rest = ap (group (head_of h) h.groups) (behind_one gs g rest)

after_one : (r : Read GroupTree) (gs : List GroupDef) (g : GroupDef)
    → ((r >>= (λ rest. Ok (group (head_of g) g.groups rest))) >>= (λ rest. Ok (behind gs rest))) ≡ (r >>= (λ rest. Ok (behind (gs ++ g ∷ []) rest)))
after_one (Ok rest) gs g = ap Ok (sym (behind_one gs g rest))
after_one (Err fault) gs g = refl

-- one group more
pub one_more : (since : ℤ) (gs : List GroupDef) (g : GroupDef) (vs : List Value) (i : ℕ) (v : Value) → i < length vs → get_or vs i v ≡ v
    → under (At i) (group_of since (view v)) ≡ Ok (head_of g, g.groups)
    → (groups_from since i (items_view (drop i vs)) >>= (λ rest. Ok (behind gs rest))) ≡ (groups_from since (i + 1) (items_view (drop (i + 1) vs)) >>= (λ rest. Ok (behind (gs ++ g ∷ []) rest)))
one_more since gs g vs i v below same made = rw (items_view-drop vs i v below, same, made) (after_one _ gs g)

-- a group that is refused
pub refused_one : (since : ℤ) (gs : List GroupDef) (fault : TomlFault) (vs : List Value) (i : ℕ) (v : Value) → i < length vs → get_or vs i v ≡ v
    → under (At i) (group_of since (view v)) ≡ Err fault
    → (groups_from since i (items_view (drop i vs)) >>= (λ rest. Ok (behind gs rest))) ≡ Err fault
refused_one since gs fault vs i v below same made = rw (items_view-drop vs i v below, same, made) refl

-- no group is left
pub none_left : (since : ℤ) (gs : List GroupDef) (vs : List Value) (i : ℕ) → length vs ≤ i
    → (groups_from since i (items_view (drop i vs)) >>= (λ rest. Ok (behind gs rest))) ≡ Ok (tree_of gs)
none_left since gs vs i past = rw (drop_all i vs past) (ap Ok (behind_none gs))

-- ---- faults from one step further out

pub at_ok : (at : ℕ) (since : ℤ) (d : Data) (g : GroupRead) → group_by_keys since d ≡ Ok g → under (At at) (group_of since d) ≡ Ok g
at_ok at since d g made = rw (group_is_by_keys since d, made) refl

pub at_err : (at : ℕ) (since : ℤ) (d : Data) (fault : TomlFault) → group_by_keys since d ≡ Err fault → under (At at) (group_of since d) ≡ Err (deepened (At at) fault)
at_err at since d fault made = rw (group_is_by_keys since d, made) refl

pub no_memory : (step : Step) (fault result : TomlFault) → IsFault result (deepened step fault) → is_memory result ≡ false → is_memory fault ≡ false
no_memory step Memory result gives plain = ap is_memory (gives plain) ∙ plain
no_memory step Text result gives plain = refl
no_memory step (Missing path) result gives plain = refl
no_memory step (WrongKind path) result gives plain = refl
no_memory step (UnknownKey path) result gives plain = refl
no_memory step (Range path) result gives plain = refl

-- ---- what lies inside is less deep

abbrev option_depth : Option Data → ℕ
option_depth None = 0
option_depth (Some d) = depth d

abbrev option_items_depth : Option Items → ℕ
option_items_depth None = 0
option_items_depth (Some ds) = items_depth ds

member_by_order : (o : Ordering) (d e : Data) (found : Option Data) (most : ℕ) → (found ≡ Some d → depth d ≤ most) → match_ordering o found (Some e) found ≡ Some d → depth d ≤ max (depth e) most
member_by_order Less d e found most deep same = let below : depth d ≤ most = deep same in omega (arith, below)
member_by_order Greater d e found most deep same = let below : depth d ≤ most = deep same in omega (arith, below)
member_by_order Equal d e found most deep same = let same_depth : depth e ≡ depth d = ap option_depth same in omega (arith, same_depth)

pub member_depth : (key : List ℕ) (keys : Members) (d : Data) → get_member key keys ≡ Some d → depth d ≤ members_depth keys
member_depth key no_members d found = grind arith
member_depth key (member k e keys) d found =
    member_by_order (slice_cmp nat_cmp key k) d e (get_member key keys) (members_depth keys) (member_depth key keys d) found

pub get_depth : (key : List ℕ) (keys d : Data) → get key keys ≡ Some d → depth d < depth keys
get_depth key (table keys) d found = omega (arith, member_depth key keys d found)
get_depth key (array ds) d found = grind arith
get_depth key (string s) d found = grind arith
get_depth key (integer z) d found = grind arith
get_depth key (float x) d found = grind arith
get_depth key (boolean b) d found = grind arith
get_depth key (datetime dt) d found = grind arith

pub item_depth : (vs : List Value) (i : ℕ) (v : Value) → i < length vs → depth (view (get_or vs i v)) ≤ items_depth (items_view vs)
item_depth [] i v below = absurd (omega arith)
item_depth (w ∷ vs) zero v below = omega arith
item_depth (w ∷ vs) (suc i) v below = omega (arith, item_depth vs i v (omega arith))

pub array_depth : (d : Data) (ds : Items) → as_array d ≡ Some ds → items_depth ds < depth d
array_depth (array es) ds same = let same_depth : items_depth es ≡ items_depth ds = ap option_items_depth same in omega (arith, same_depth)
array_depth (table keys) ds same = grind arith
array_depth (string s) ds same = grind arith
array_depth (integer z) ds same = grind arith
array_depth (float x) ds same = grind arith
array_depth (boolean b) ds same = grind arith
array_depth (datetime dt) ds same = grind arith
