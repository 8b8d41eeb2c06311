-- Data that a text can write: its texts are UTF-8, and none of its integers is below the least one of TOML. The rules
-- that define tables keep to such data.
use Rattle.std.proofs.Common.{◌≡◌, ℕ, ◌-◌, ◌^◌, Bool, true, false, cond, nat_le, nat_cmp, ℤ, pos, negsuc, List, [], ◌∷◌, ◌++◌, Option, Some, None, option_map, Ordering, Less, Equal, Greater, refl, subst}
use Rattle.std.specs.Cmp.Lexicographic.{slice_cmp}
use Rattle.std.specs.Ordering.{match_ordering}
use Rattle.std.specs.Str.{is_utf8}
use Rattle.toml.specs.Data.{Data, string, integer, float, boolean, datetime, array, table, Items, no_items, item, Members, no_members, member, push_item, same_key}
use Rattle.toml.specs.Tables.{implicit, dotted, header, Node, Nodes, no_nodes, node, value, open_table, open_array, get_node, insert, replace, close_node, close, Edit, header_node, dot_node, by_header, by_dot, along_header, along_dots, Definition, key_value, std_table, array_table, new_node, redefine, at_found, at_key, put, Document, define_as, define}

-- a number that is no less than the least integer of TOML
abbrev pub Held : ℤ → Type 0
Held (pos n) = Unit {0}
Held (negsuc n) = nat_le n (2 ^ 63 - 1) ≡ true

abbrev mutual
  pub Sound : Data → Type 0
  Sound (string s) = is_utf8 s ≡ true
  Sound (integer z) = Held z
  Sound (float x) = Unit {0}
  Sound (boolean b) = Unit {0}
  Sound (datetime dt) = Unit {0}
  Sound (array ds) = SoundItems ds
  Sound (table ms) = SoundMembers ms

  pub SoundItems : Items → Type 0
  SoundItems no_items = Unit {0}
  SoundItems (item d ds) = Sound d × SoundItems ds

  pub SoundMembers : Members → Type 0
  SoundMembers no_members = Unit {0}
  SoundMembers (member k d ms) = Sound d × SoundMembers ms

abbrev mutual
  pub SoundNode : Node → Type 0
  SoundNode (value d) = Sound d
  SoundNode (open_table origin ns) = SoundNodes ns
  SoundNode (open_array done ns) = SoundItems done × SoundNodes ns

  pub SoundNodes : Nodes → Type 0
  SoundNodes no_nodes = Unit {0}
  SoundNodes (node k x ns) = SoundNode x × SoundNodes ns

abbrev pub SoundDefinition : Definition → Type 0
SoundDefinition (key_value d) = Sound d
SoundDefinition std_table = Unit {0}
SoundDefinition array_table = Unit {0}

abbrev pub SoundEdit : Edit → Type 0
SoundEdit edit = (ns new : Nodes) → SoundNodes ns → edit ns ≡ Some new → SoundNodes new

pub some_value : {A : Type 0} (a b : A) → Some a ≡ Some b → a ≡ b
some_value a b same = cc

pub map_inv : {A B G : Type 0} (f : A → B) (o : Option A) (b : B) → option_map f o ≡ Some b → ((a : A) → o ≡ Some a → f a ≡ b → G) → G
map_inv f None b gives so = absurd cc
map_inv f (Some a) b gives so = so a refl (some_value (f a) b gives)

-- ---- items, members and nodes

pub push_sound : (ds : Items) (d : Data) → SoundItems ds → Sound d → SoundItems (push_item ds d)
push_sound no_items d all here = (here, tt)
push_sound (item e ds) d all here = (all.0, push_sound ds d all.1 here)

mutual
  close_node_sound : (x : Node) → SoundNode x → Sound (close_node x)
  close_node_sound (value d) all = all
  close_node_sound (open_table origin ns) all = close_sound ns all
  close_node_sound (open_array done ns) all = push_sound done (table (close ns)) all.0 (close_sound ns all.1)

  pub close_sound : (ns : Nodes) → SoundNodes ns → SoundMembers (close ns)
  close_sound no_nodes all = tt
  close_sound (node k x ns) all = (close_node_sound x all.0, close_sound ns all.1)

get_by : (b : Bool) (y x : Node) (o : Option Node) → cond b (Some y) o ≡ Some x → SoundNode y → (o ≡ Some x → SoundNode x) → SoundNode x
get_by true y x o gives here more = subst SoundNode (some_value y x gives) here
get_by false y x o gives here more = more gives

get_node_sound : (k : List ℕ) (ns : Nodes) (x : Node) → get_node k ns ≡ Some x → SoundNodes ns → SoundNode x
get_node_sound k no_nodes x gives all = absurd cc
get_node_sound k (node l y ns) x gives all = get_by (same_key k l) y x (get_node k ns) gives all.0 (λ more. get_node_sound k ns x more all.1)

insert_by : (o : Ordering) (k l : List ℕ) (x y : Node) (ns more : Nodes) → SoundNode x → SoundNode y → SoundNodes ns → SoundNodes more
    → SoundNodes (match_ordering o (node k x (node l y ns)) (node l x ns) (node l y more))
insert_by Less k l x y ns more here there all rest = (here, (there, all))
insert_by Equal k l x y ns more here there all rest = (here, all)
insert_by Greater k l x y ns more here there all rest = (there, rest)

insert_sound : (k : List ℕ) (x : Node) (ns : Nodes) → SoundNode x → SoundNodes ns → SoundNodes (insert k x ns)
insert_sound k x no_nodes here all = (here, tt)
insert_sound k x (node l y ns) here all = insert_by (slice_cmp nat_cmp k l) k l x y ns (insert k x ns) here all.0 all.1 (insert_sound k x ns here all.1)

replace_by : (b : Bool) (l : List ℕ) (x y : Node) (ns more : Nodes) → SoundNode x → SoundNode y → SoundNodes ns → SoundNodes more → SoundNodes (cond b (node l x ns) (node l y more))
replace_by true l x y ns more here there all rest = (here, all)
replace_by false l x y ns more here there all rest = (there, rest)

replace_sound : (k : List ℕ) (x : Node) (ns : Nodes) → SoundNode x → SoundNodes ns → SoundNodes (replace k x ns)
replace_sound k x no_nodes here all = tt
replace_sound k x (node l y ns) here all = replace_by (same_key k l) l x y ns (replace k x ns) here all.0 all.1 (replace_sound k x ns here all.1)

-- ---- edits

header_node_sound : (edit : Edit) (x y : Node) → SoundEdit edit → SoundNode x → header_node edit x ≡ Some y → SoundNode y
header_node_sound edit (value d) y keeps all gives = absurd cc
header_node_sound edit (open_table origin inner) y keeps all gives = map_inv (open_table origin) (edit inner) y gives (λ new made same. subst SoundNode same (keeps inner new all made))
header_node_sound edit (open_array done last) y keeps all gives = map_inv (open_array done) (edit last) y gives (λ new made same. subst SoundNode same (all.0, keeps last new all.1 made))

dot_node_sound : (edit : Edit) (x y : Node) → SoundEdit edit → SoundNode x → dot_node edit x ≡ Some y → SoundNode y
dot_node_sound edit (value d) y keeps all gives = absurd cc
dot_node_sound edit (open_table header inner) y keeps all gives = absurd cc
dot_node_sound edit (open_table implicit inner) y keeps all gives = map_inv (open_table dotted) (edit inner) y gives (λ new made same. subst SoundNode same (keeps inner new all made))
dot_node_sound edit (open_table dotted inner) y keeps all gives = map_inv (open_table dotted) (edit inner) y gives (λ new made same. subst SoundNode same (keeps inner new all made))
dot_node_sound edit (open_array done last) y keeps all gives = absurd cc

by_header_sound : (k : List ℕ) (edit : Edit) (ns new : Nodes) (o : Option Node) → SoundEdit edit → SoundNodes ns → get_node k ns ≡ o → by_header k edit ns o ≡ Some new → SoundNodes new
by_header_sound k edit ns new None keeps all at gives =
    map_inv (λ inner. insert k (open_table implicit inner) ns) (edit no_nodes) new gives (λ inner made same. subst SoundNodes same (insert_sound k (open_table implicit inner) ns (keeps no_nodes inner tt made) all))
by_header_sound k edit ns new (Some x) keeps all at gives =
    map_inv (λ y. replace k y ns) (header_node edit x) new gives (λ y made same. subst SoundNodes same (replace_sound k y ns (header_node_sound edit x y keeps (get_node_sound k ns x at all) made) all))

by_dot_sound : (k : List ℕ) (edit : Edit) (ns new : Nodes) (o : Option Node) → SoundEdit edit → SoundNodes ns → get_node k ns ≡ o → by_dot k edit ns o ≡ Some new → SoundNodes new
by_dot_sound k edit ns new None keeps all at gives =
    map_inv (λ inner. insert k (open_table dotted inner) ns) (edit no_nodes) new gives (λ inner made same. subst SoundNodes same (insert_sound k (open_table dotted inner) ns (keeps no_nodes inner tt made) all))
by_dot_sound k edit ns new (Some x) keeps all at gives =
    map_inv (λ y. replace k y ns) (dot_node edit x) new gives (λ y made same. subst SoundNodes same (replace_sound k y ns (dot_node_sound edit x y keeps (get_node_sound k ns x at all) made) all))

along_header_sound : (path : List (List ℕ)) (edit : Edit) → SoundEdit edit → SoundEdit (along_header path edit)
unfolding along_header
along_header_sound [] edit keeps ns new all gives = keeps ns new all gives
along_header_sound (k ∷ path) edit keeps ns new all gives = by_header_sound k (along_header path edit) ns new (get_node k ns) (along_header_sound path edit keeps) all refl gives

along_dots_sound : (path : List (List ℕ)) (edit : Edit) → SoundEdit edit → SoundEdit (along_dots path edit)
unfolding along_dots
along_dots_sound [] edit keeps ns new all gives = keeps ns new all gives
along_dots_sound (k ∷ path) edit keeps ns new all gives = by_dot_sound k (along_dots path edit) ns new (get_node k ns) (along_dots_sound path edit keeps) all refl gives

new_node_sound : (what : Definition) → SoundDefinition what → SoundNode (new_node what)
new_node_sound (key_value d) here = here
new_node_sound std_table here = tt
new_node_sound array_table here = (tt, tt)

redefine_sound : (what : Definition) (x y : Node) → SoundNode x → redefine what x ≡ Some y → SoundNode y
redefine_sound (key_value d) x y all gives = absurd cc
redefine_sound std_table (value d) y all gives = absurd cc
redefine_sound std_table (open_table implicit inner) y all gives = subst SoundNode (some_value (open_table header inner) y gives) all
redefine_sound std_table (open_table dotted inner) y all gives = absurd cc
redefine_sound std_table (open_table header inner) y all gives = absurd cc
redefine_sound std_table (open_array done last) y all gives = absurd cc
redefine_sound array_table (value d) y all gives = absurd cc
redefine_sound array_table (open_table origin inner) y all gives = absurd cc
redefine_sound array_table (open_array done last) y all gives =
    subst SoundNode (some_value (open_array (push_item done (table (close last))) no_nodes) y gives) (push_sound done (table (close last)) all.0 (close_sound last all.1), tt)

found_sound : (k : List ℕ) (what : Definition) (ns new : Nodes) (o : Option Node) → SoundDefinition what → SoundNodes ns → get_node k ns ≡ o → at_found k what ns o ≡ Some new → SoundNodes new
found_sound k what ns new None here all at gives = subst SoundNodes (some_value (insert k (new_node what) ns) new gives) (insert_sound k (new_node what) ns (new_node_sound what here) all)
found_sound k what ns new (Some x) here all at gives =
    map_inv (λ y. replace k y ns) (redefine what x) new gives (λ y made same. subst SoundNodes same (replace_sound k y ns (redefine_sound what x y (get_node_sound k ns x at all) made) all))

at_key_sound : (k : List ℕ) (what : Definition) → SoundDefinition what → SoundEdit (at_key k what)
unfolding at_key
at_key_sound k what here ns new all gives = found_sound k what ns new (get_node k ns) here all refl gives

pub put_sound : (path : List (List ℕ)) (k : List ℕ) (d : Data) → Sound d → SoundEdit (put (path, k) d)
put_sound path k d here = along_dots_sound path (at_key k (key_value d)) (at_key_sound k (key_value d) here)

define_as_sound : (doc new : Document) (path : List (List ℕ)) (k : List ℕ) (what : Definition) → SoundDefinition what → SoundNodes doc.0 → define_as doc (path, k) what ≡ Some new → SoundNodes new.0
define_as_sound doc new path k (key_value d) here all gives =
    map_inv (λ root. (root, doc.1)) (along_header doc.1 (put (path, k) d) doc.0) new gives
    (λ root made same. subst (λ (x : Document). SoundNodes x.0) same (along_header_sound doc.1 (put (path, k) d) (put_sound path k d here) doc.0 root all made))
define_as_sound doc new path k std_table here all gives =
    map_inv (λ root. (root, path ++ k ∷ [])) (along_header path (at_key k std_table) doc.0) new gives
    (λ root made same. subst (λ (x : Document). SoundNodes x.0) same (along_header_sound path (at_key k std_table) (at_key_sound k std_table tt) doc.0 root all made))
define_as_sound doc new path k array_table here all gives =
    map_inv (λ root. (root, path ++ k ∷ [])) (along_header path (at_key k array_table) doc.0) new gives
    (λ root made same. subst (λ (x : Document). SoundNodes x.0) same (along_header_sound path (at_key k array_table) (at_key_sound k array_table tt) doc.0 root all made))

-- one more expression
pub define_sound : (doc new : Document) (path : List (List ℕ)) (k : List ℕ) (what : Definition) → SoundDefinition what → SoundNodes doc.0 → define doc ((path, k), what) ≡ Some new → SoundNodes new.0
unfolding define
define_sound doc new path k what here all gives = define_as_sound doc new path k what here all gives
