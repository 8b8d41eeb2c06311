-- The keys of each table of a TOML document ascend by their bytes.
use Rattle.std.proofs.Common.{◌≡◌, ℕ, zero, suc, Less, Equal, Greater, nat_cmp, Bool, true, false, ◌&&◌, ◌==◌, if◌then◌else◌, List, [], ◌∷◌, ◌++◌, length, drop, slice_index, Option, Some, None, option_map, option_and_then, refl, ap, ◌∙◌, subst}
use Rattle.std.specs.Prelude.{⊤}
use Rattle.std.specs.Ordering.{is_lt, is_eq, match_ordering, ordering_reverse}
use Rattle.std.specs.Cmp.Lexicographic.{slice_cmp}
use Rattle.std.proofs.lemmas.Bool.{and_from, and_parts}
use Rattle.std.proofs.lemmas.Cmp.{nat_list_cmp_total}
use Rattle.toml_parser.specs.Lexical.{Read, first, right_bracket, right_brace, left_bracket, left_brace, skip_ws, skip_blank}
use Rattle.toml_parser.specs.Strings.{Key, recursion_limit, starts_string, quoted}
use Rattle.toml_parser.specs.Numbers.{unquoted}
use Rattle.toml_parser.specs.declared.scalar.Scalar.{Scalar}
use Rattle.toml_parser.specs.declared.scalar.Scalar.TheVariants.{Boolean, Integer, Float, Datetime}
use Rattle.toml.specs.Data.{Data, string, array, table, Items, item, no_items, push_item, Members, is_before, is_sorted, items_are_sorted, members_are_sorted}
use Rattle.toml.specs.Tables.{implicit, dotted, header, Node, Nodes, no_nodes, node, value, open_table, open_array, get_node, insert, replace, close, close_node, Edit, header_node, dot_node, by_header, by_dot, along_header, along_dots, Definition, key_value, std_table, array_table, Expression, new_node, redefine, at_found, at_key, put, Document, define_as, define}
use Rattle.toml.specs.Parse.{read_map, after_byte, after_element, key_equals, keyval, items, members, scalar_data, atom, val, header_key, expression, ends_line, line, lines, skip_bom, parse_document}

-- ---- what is given, if anything

abbrev Given : {A : Type 0} → (A → Type 0) → Option A → Type 0
Given P None = ⊤
Given P (Some x) = P x

given_any : {A : Type 0} (o : Option A) → Given (λ _. ⊤) o
given_any None = tt
given_any (Some x) = tt

given_map : {A B : Type 0} (P : A → Type 0) (Q : B → Type 0) (f : A → B) (o : Option A) → Given P o → ((x : A) → P x → Q (f x)) → Given Q (option_map f o)
given_map P Q f None g h = tt
given_map P Q f (Some x) g h = h x g

given_next : {A B : Type 0} (P : A → Type 0) (Q : B → Type 0) (f : A → Option B) (o : Option A) → Given P o → ((x : A) → P x → Given Q (f x)) → Given Q (option_and_then f o)
given_next P Q f None g h = tt
given_next P Q f (Some x) g h = h x g

given_if : {A : Type 0} (P : A → Type 0) (b : Bool) (x y : Option A) → Given P x → Given P y → Given P (if b then x else y)
given_if P true x y g h = g
given_if P false x y g h = h

-- ---- nodes whose keys ascend, and whose values' keys do

abbrev Above : List ℕ → Nodes → Type 0
Above k no_nodes = ⊤
Above k (node l x ns) = (slice_cmp nat_cmp k l ≡ Less) × Above k ns

abbrev mutual
  Ascends : Node → Type 0
  Ascends (value d) = is_sorted d ≡ true
  Ascends (open_table origin ns) = AllAscend ns
  Ascends (open_array done ns) = (items_are_sorted done ≡ true) × AllAscend ns

  AllAscend : Nodes → Type 0
  AllAscend no_nodes = ⊤
  AllAscend (node k x ns) = Above k ns × (Ascends x × AllAscend ns)

before_closed : (k : List ℕ) (ns : Nodes) → Above k ns → is_before k (close ns) ≡ true
before_closed k no_nodes h = refl
before_closed k (node l x ns) h = ap is_lt h.0

pushed : (ds : Items) (d : Data) → items_are_sorted ds ≡ true → is_sorted d ≡ true → items_are_sorted (push_item ds d) ≡ true
pushed no_items d a b = and_from (is_sorted d) true b refl
pushed (item e es) d a b =
    let parts = and_parts (is_sorted e) (items_are_sorted es) a in
    and_from (is_sorted e) (items_are_sorted (push_item es d)) parts.0 (pushed es d parts.1 b)

mutual
  closed_node : (x : Node) → Ascends x → is_sorted (close_node x) ≡ true
  closed_node (value d) h = h
  closed_node (open_table origin ns) h = closed ns h
  closed_node (open_array done ns) h = pushed done (table (close ns)) h.0 (closed ns h.1)

  closed : (ns : Nodes) → AllAscend ns → members_are_sorted (close ns) ≡ true
  closed no_nodes h = refl
  closed (node k x ns) h =
      and_from (is_before k (close ns) && is_sorted (close_node x)) (members_are_sorted (close ns)) (and_from (is_before k (close ns)) (is_sorted (close_node x)) (before_closed k ns h.0) (closed_node x h.1.0)) (closed ns h.1.1)

above_earlier : (j k : List ℕ) (ns : Nodes) → slice_cmp nat_cmp j k ≡ Less → Above k ns → Above j ns
above_earlier j k no_nodes less h = tt
above_earlier j k (node l x ns) less h = (nat_list_cmp_total.trans j k l less h.0, above_earlier j k ns less h.1)

insert_above : (j k : List ℕ) (x : Node) (ns : Nodes) → slice_cmp nat_cmp j k ≡ Less → Above j ns → Above j (insert k x ns)
insert_above j k x no_nodes less h = (less, tt)
insert_above j k x (node l y ns) less h =
    elim (slice_cmp nat_cmp k l) as (λ o. Above j (match_ordering o (node k x (node l y ns)) (node l x ns) (node l y (insert k x ns)))) [
      | Less ↦ (less, h)
      | Equal ↦ h
      | Greater ↦ (h.0, insert_above j k x ns less h.1)
    ]

less_of : (k l : List ℕ) → slice_cmp nat_cmp k l ≡ Greater → slice_cmp nat_cmp l k ≡ Less
less_of k l more = nat_list_cmp_total.antisymm l k ∙ ap ordering_reverse more

inserted : (k : List ℕ) (x : Node) (ns : Nodes) → Ascends x → AllAscend ns → AllAscend (insert k x ns)
inserted k x no_nodes a h = (tt, (a, tt))
inserted k x (node l y ns) a h =
    elim (slice_cmp nat_cmp k l) as (λ o. slice_cmp nat_cmp k l ≡ o → AllAscend (match_ordering o (node k x (node l y ns)) (node l x ns) (node l y (insert k x ns)))) [
      | Less ↦ λ less. ((less, above_earlier k l ns less h.0), (a, h))
      | Equal ↦ λ tie. (h.0, (a, h.1.1))
      | Greater ↦ λ more. (insert_above l k x ns (less_of k l more) h.0, (h.1.0, inserted k x ns a h.1.1))
    ] refl

replace_above : (j k : List ℕ) (x : Node) (ns : Nodes) → Above j ns → Above j (replace k x ns)
replace_above j k x no_nodes h = tt
replace_above j k x (node l y ns) h =
    elim (is_eq (slice_cmp nat_cmp k l)) as (λ b. Above j (if b then node l x ns else node l y (replace k x ns))) [ true ↦ h | false ↦ (h.0, replace_above j k x ns h.1) ]

replaced : (k : List ℕ) (x : Node) (ns : Nodes) → Ascends x → AllAscend ns → AllAscend (replace k x ns)
replaced k x no_nodes a h = tt
replaced k x (node l y ns) a h =
    elim (is_eq (slice_cmp nat_cmp k l)) as (λ b. AllAscend (if b then node l x ns else node l y (replace k x ns))) [
      | true ↦ (h.0, (a, h.1.1))
      | false ↦ (replace_above l k x ns h.0, (h.1.0, replaced k x ns a h.1.1))
    ]

found_ascends : (k : List ℕ) (ns : Nodes) → AllAscend ns → Given Ascends (get_node k ns)
found_ascends k no_nodes h = tt
found_ascends k (node l x ns) h = given_if Ascends (is_eq (slice_cmp nat_cmp k l)) (Some x) (get_node k ns) h.1.0 (found_ascends k ns h.1.1)

-- ---- edits

abbrev Keeps : Edit → Type 0
Keeps e = (ns : Nodes) → AllAscend ns → Given AllAscend (e ns)

header_node_ascends : (e : Edit) → Keeps e → (x : Node) → Ascends x → Given Ascends (header_node e x)
header_node_ascends e keeps (value d) h = tt
header_node_ascends e keeps (open_table origin inner) h = given_map AllAscend Ascends (open_table origin) (e inner) (keeps inner h) (λ _ a. a)
header_node_ascends e keeps (open_array done last) h = given_map AllAscend Ascends (open_array done) (e last) (keeps last h.1) (λ _ a. (h.0, a))

dot_node_ascends : (e : Edit) → Keeps e → (x : Node) → Ascends x → Given Ascends (dot_node e x)
dot_node_ascends e keeps (value d) h = tt
dot_node_ascends e keeps (open_table header inner) h = tt
dot_node_ascends e keeps (open_table implicit inner) h = given_map AllAscend Ascends (open_table dotted) (e inner) (keeps inner h) (λ _ a. a)
dot_node_ascends e keeps (open_table dotted inner) h = given_map AllAscend Ascends (open_table dotted) (e inner) (keeps inner h) (λ _ a. a)
dot_node_ascends e keeps (open_array done last) h = tt

header_keeps : (k : List ℕ) (e : Edit) → Keeps e → (ns : Nodes) (o : Option Node) → Given Ascends o → AllAscend ns → Given AllAscend (by_header k e ns o)
header_keeps k e keeps ns None g h =
    given_map AllAscend AllAscend (λ new. insert k (open_table implicit new) ns) (e no_nodes) (keeps no_nodes tt) (λ new a. inserted k (open_table implicit new) ns a h)
header_keeps k e keeps ns (Some x) g h =
    given_map Ascends AllAscend (λ new. replace k new ns) (header_node e x) (header_node_ascends e keeps x g) (λ new a. replaced k new ns a h)

dots_keep : (k : List ℕ) (e : Edit) → Keeps e → (ns : Nodes) (o : Option Node) → Given Ascends o → AllAscend ns → Given AllAscend (by_dot k e ns o)
dots_keep k e keeps ns None g h =
    given_map AllAscend AllAscend (λ new. insert k (open_table dotted new) ns) (e no_nodes) (keeps no_nodes tt) (λ new a. inserted k (open_table dotted new) ns a h)
dots_keep k e keeps ns (Some x) g h =
    given_map Ascends AllAscend (λ new. replace k new ns) (dot_node e x) (dot_node_ascends e keeps x g) (λ new a. replaced k new ns a h)

along_header_keeps : (path : List (List ℕ)) (e : Edit) → Keeps e → Keeps (along_header path e)
unfolding along_header
along_header_keeps [] e keeps ns h = keeps ns h
along_header_keeps (k ∷ path) e keeps ns h =
    header_keeps k (along_header path e) (along_header_keeps path e keeps) ns (get_node k ns) (found_ascends k ns h) h

along_dots_keeps : (path : List (List ℕ)) (e : Edit) → Keeps e → Keeps (along_dots path e)
unfolding along_dots
along_dots_keeps [] e keeps ns h = keeps ns h
along_dots_keeps (k ∷ path) e keeps ns h =
    dots_keep k (along_dots path e) (along_dots_keeps path e keeps) ns (get_node k ns) (found_ascends k ns h) h

abbrev Defines : Definition → Type 0
Defines (key_value d) = is_sorted d ≡ true
Defines std_table = ⊤
Defines array_table = ⊤

new_ascends : (what : Definition) → Defines what → Ascends (new_node what)
new_ascends (key_value d) h = h
new_ascends std_table h = tt
new_ascends array_table h = (refl, tt)

redefined : (what : Definition) (x : Node) → Ascends x → Given Ascends (redefine what x)
redefined (key_value d) x h = tt
redefined std_table (value d) h = tt
redefined std_table (open_table implicit inner) h = h
redefined std_table (open_table dotted inner) h = tt
redefined std_table (open_table header inner) h = tt
redefined std_table (open_array done last) h = tt
redefined array_table (value d) h = tt
redefined array_table (open_table origin inner) h = tt
redefined array_table (open_array done last) h = (pushed done (table (close last)) h.0 (closed last h.1), tt)

found_keeps : (k : List ℕ) (what : Definition) → Defines what → (ns : Nodes) (o : Option Node) → Given Ascends o → AllAscend ns → Given AllAscend (at_found k what ns o)
found_keeps k what d ns None g h = inserted k (new_node what) ns (new_ascends what d) h
found_keeps k what d ns (Some x) g h =
    given_map Ascends AllAscend (λ y. replace k y ns) (redefine what x) (redefined what x g) (λ y a. replaced k y ns a h)

at_key_keeps : (k : List ℕ) (what : Definition) → Defines what → Keeps (at_key k what)
unfolding at_key
at_key_keeps k what d ns h = found_keeps k what d ns (get_node k ns) (found_ascends k ns h) h

put_keeps : (k : Key) (d : Data) → is_sorted d ≡ true → Keeps (put k d)
put_keeps k d h = along_dots_keeps k.0 (at_key k.1 (key_value d)) (at_key_keeps k.1 (key_value d) h)

define_keeps : (doc : Document) (k : Key) (what : Definition) → Defines what → AllAscend doc.0 → Given (λ (next : Document). AllAscend next.0) (define_as doc k what)
define_keeps doc k (key_value d) w h =
    given_map AllAscend (λ (next : Document). AllAscend next.0) (λ root. (root, doc.1)) (along_header doc.1 (put k d) doc.0) (along_header_keeps doc.1 (put k d) (put_keeps k d w) doc.0 h) (λ _ a. a)
define_keeps doc k std_table w h =
    given_map AllAscend (λ (next : Document). AllAscend next.0) (λ root. (root, k.0 ++ k.1 ∷ [])) (along_header k.0 (at_key k.1 std_table) doc.0) (along_header_keeps k.0 (at_key k.1 std_table) (at_key_keeps k.1 std_table tt) doc.0 h) (λ _ a. a)
define_keeps doc k array_table w h =
    given_map AllAscend (λ (next : Document). AllAscend next.0) (λ root. (root, k.0 ++ k.1 ∷ [])) (along_header k.0 (at_key k.1 array_table) doc.0) (along_header_keeps k.0 (at_key k.1 array_table) (at_key_keeps k.1 array_table tt) doc.0 h) (λ _ a. a)

-- ---- values

abbrev Reads : {A : Type 0} → (A → Type 0) → Option (A × List ℕ) → Type 0
Reads {A} P r = Given (λ (p : A × List ℕ). P p.0) r

module _ (read : List ℕ → Read Data) (sorted : (text : List ℕ) → Reads (λ d. is_sorted d ≡ true) (read text)) where
  keyval_sorted : (text : List ℕ) → Reads (λ (e : Key × Data). is_sorted e.1 ≡ true) (keyval read text)
  keyval_sorted text =
      given_next (λ _. ⊤) (λ (e : (Key × Data) × List ℕ). is_sorted e.0.1 ≡ true) (λ k. read_map (λ d. (k.0, d)) (read k.1)) (key_equals text) (given_any (key_equals text)) (λ k _. given_map (λ (p : Data × List ℕ). is_sorted p.0 ≡ true) (λ (e : (Key × Data) × List ℕ). is_sorted e.0.1 ≡ true) (λ p. ((k.0, p.0), p.1)) (read k.1) (sorted k.1) (λ _ h. h))

  items_sorted : (n : ℕ) (found : Items) (text : List ℕ) → items_are_sorted found ≡ true → Reads (λ ds. items_are_sorted ds ≡ true) (items read n found text)
  unfolding items
  items_sorted zero found text h = tt
  items_sorted (suc n) found text h =
      let start = skip_blank text in
      given_if (λ (p : Items × List ℕ). items_are_sorted p.0 ≡ true) (first start == right_bracket) (Some (found, drop 1 start)) _ h
      (given_next (λ (p : Data × List ℕ). is_sorted p.0 ≡ true) (λ (p : Items × List ℕ). items_are_sorted p.0 ≡ true) (λ v. option_and_then (items read n (push_item found v.0)) (after_element right_bracket v.1)) (read start) (sorted start)
      (λ v s. given_next (λ _. ⊤) (λ (p : Items × List ℕ). items_are_sorted p.0 ≡ true) (items read n (push_item found v.0)) (after_element right_bracket v.1) (given_any (after_element right_bracket v.1)) (λ rest _. items_sorted n (push_item found v.0) rest (pushed found v.0 h s))))

  members_sorted : (n : ℕ) (found : Nodes) (text : List ℕ) → AllAscend found → Reads (λ ms. members_are_sorted ms ≡ true) (members read n found text)
  unfolding members
  members_sorted zero found text h = tt
  members_sorted (suc n) found text h =
      let start = skip_blank text in
      given_if (λ (p : Members × List ℕ). members_are_sorted p.0 ≡ true) (first start == right_brace) (Some (close found, drop 1 start)) _ (closed found h)
      (given_next (λ (e : (Key × Data) × List ℕ). is_sorted e.0.1 ≡ true) (λ (p : Members × List ℕ). members_are_sorted p.0 ≡ true) (λ e. option_and_then (λ more. option_and_then (members read n more) (after_element right_brace e.1)) (put e.0.0 e.0.1 found)) (keyval read start) (keyval_sorted start)
      (λ e s. given_next AllAscend (λ (p : Members × List ℕ). members_are_sorted p.0 ≡ true) (λ more. option_and_then (members read n more) (after_element right_brace e.1)) (put e.0.0 e.0.1 found) (put_keeps e.0.0 e.0.1 s found h)
      (λ more a. given_next (λ _. ⊤) (λ (p : Members × List ℕ). members_are_sorted p.0 ≡ true) (members read n more) (after_element right_brace e.1) (given_any (after_element right_brace e.1)) (λ rest _. members_sorted n more rest a))))

scalar_sorted : (s : Scalar) → is_sorted (scalar_data s) ≡ true
scalar_sorted (Boolean b) = refl
scalar_sorted (Integer z) = refl
scalar_sorted (Float x) = refl
scalar_sorted (Datetime dt) = refl

abbrev IsSorted : Data × List ℕ → Type 0
IsSorted p = is_sorted p.0 ≡ true

atom_sorted : (text : List ℕ) → Given IsSorted (atom text)
unfolding atom
atom_sorted text =
    given_if IsSorted (starts_string text) (read_map string (quoted text)) (read_map scalar_data (unquoted text))
    (given_map (λ _. ⊤) IsSorted (λ p. (string p.0, p.1)) (quoted text) (given_any (quoted text)) (λ _ _. refl))
    (given_map (λ _. ⊤) IsSorted (λ p. (scalar_data p.0, p.1)) (unquoted text) (given_any (unquoted text)) (λ p _. scalar_sorted p.0))

val_sorted : (depth : ℕ) (text : List ℕ) → Given IsSorted (val depth text)
unfolding val
val_sorted zero text = atom_sorted text
val_sorted (suc depth) text =
    given_if IsSorted (first text == left_bracket) (read_map array (items (val depth) (length text) no_items (drop 1 text))) _
    (given_map (λ (p : Items × List ℕ). items_are_sorted p.0 ≡ true) IsSorted (λ p. (array p.0, p.1)) (items (val depth) (length text) no_items (drop 1 text)) (items_sorted (val depth) (val_sorted depth) (length text) no_items (drop 1 text) refl) (λ _ h. h))
    (given_if IsSorted (first text == left_brace) (read_map table (members (val depth) (length text) no_nodes (drop 1 text))) (atom text)
    (given_map (λ (p : Members × List ℕ). members_are_sorted p.0 ≡ true) IsSorted (λ p. (table p.0, p.1)) (members (val depth) (length text) no_nodes (drop 1 text)) (members_sorted (val depth) (val_sorted depth) (length text) no_nodes (drop 1 text) tt) (λ _ h. h))
    (atom_sorted text))

-- ---- lines

abbrev IsDefined : Expression × List ℕ → Type 0
IsDefined e = Defines e.0.1

expression_defines : (text : List ℕ) → Given IsDefined (expression text)
unfolding expression
expression_defines text =
    let pair = read_map (λ p. (p.0, key_value p.1)) (keyval (val recursion_limit) text) in
    let one = read_map (λ k. (k, std_table)) (header_key (drop 1 text)) in
    given_if IsDefined (first text == left_bracket && slice_index text 1 == left_bracket) _ (if first text == left_bracket then one else pair)
    (given_next (λ _. ⊤) IsDefined _ (header_key (drop 2 text)) (given_any (header_key (drop 2 text))) (λ k _. given_map (λ _. ⊤) IsDefined (λ rest. ((k.0, array_table), rest)) (after_byte right_bracket k.1) (given_any (after_byte right_bracket k.1)) (λ _ _. tt)))
    (given_if IsDefined (first text == left_bracket) one pair
    (given_map (λ _. ⊤) IsDefined (λ p. ((p.0, std_table), p.1)) (header_key (drop 1 text)) (given_any (header_key (drop 1 text))) (λ _ _. tt))
    (given_map (λ (e : (Key × Data) × List ℕ). is_sorted e.0.1 ≡ true) IsDefined (λ p. ((p.0.0, key_value p.0.1), p.1)) (keyval (val recursion_limit) text) (keyval_sorted (val recursion_limit) (val_sorted recursion_limit) text) (λ _ h. h)))

line_defines : (text : List ℕ) → Given IsDefined (line text)
unfolding line
line_defines text =
    given_next IsDefined IsDefined _ (expression text) (expression_defines text) (λ e h. given_if IsDefined (ends_line (skip_ws e.1)) (Some e) None h tt)

abbrev Root : Document → Type 0
Root doc = AllAscend doc.0

lines_ascend : (n : ℕ) (doc : Document) (text : List ℕ) → Root doc → Given Root (lines n doc text)
unfolding lines define
lines_ascend zero doc text h = tt
lines_ascend (suc n) doc text h =
    let start = skip_blank text in
    given_if Root (length start == 0) (Some doc) _ h
    (given_next IsDefined Root _ (line start) (line_defines start) (λ e w. given_next Root Root (λ next. lines n next e.1) (define_as doc e.0.0 e.0.1) (define_keeps doc e.0.0 e.0.1 w h) (λ next a. lines_ascend n next e.1 a)))

abbrev AreSorted : Members → Type 0
AreSorted ms = members_are_sorted ms ≡ true

pub documents_ascend : (text : List ℕ) (keys : Members) → parse_document text ≡ Some keys → members_are_sorted keys ≡ true
unfolding parse_document
documents_ascend text keys e =
    let all : Given AreSorted (parse_document text) = given_map Root AreSorted (λ doc. close doc.0) (lines (suc (length text)) (no_nodes, []) (skip_bom text)) (lines_ascend (suc (length text)) (no_nodes, []) (skip_bom text) tt) (λ doc a. closed doc.0 a) in
    subst (Given AreSorted) e all
