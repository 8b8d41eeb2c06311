-- What a UTF-8 text writes as a TOML document: data whose texts are UTF-8 and whose integers TOML has.
use Rattle.std.proofs.Common.{◌≡◌, ℕ, zero, suc, ◌^◌, ◌&&◌, ◌||◌, ◌==◌, Bool, true, false, not, cond, nat_lt, pos, List, [], ◌∷◌, ◌++◌, length, take, drop, filter, slice_index, codes, Option, Some, subst, arith}
use Rattle.std.proofs.lemmas.Bool.Decides.{nat_tests}
use Rattle.std.proofs.lemmas.Str.{is_utf8-from_IsUtf8, IsUtf8-from_is_utf8}
use Rattle.std.specs.Char.{is_digit}
use Rattle.std.specs.List.{list_all}
use Rattle.std.specs.Str.{bytes_eq, is_utf8}
use Rattle.std.specs.Str.Parse.{digits_value}
use Rattle.std.specs.Float.{binary64, float_is_finite}
use Rattle.std.specs.Float.Ieee.{inf, nan}
use Rattle.fast_float.specs.Text.{Parts, scan, digits_of, nearest, with_sign}
use Rattle.toml_datetime.specs.Parse.{parse_datetime}
use Rattle.toml_parser.specs.declared.scalar.Scalar.{Scalar}
use Rattle.toml_parser.specs.declared.scalar.Scalar.TheVariants.{Boolean, Integer, Float, Datetime}
use Rattle.toml_parser.specs.Lexical.{first, skip_ws, skip_blank, split_while, is_bare, dot, comma, dash, plus, equals, left_bracket, right_bracket, left_brace, right_brace, underscore}
use Rattle.toml_parser.specs.Numbers.{radix_of, prefixed_integer, integer_of, float_of, decimal_number, plain_number, number, word_value, word_len, unquoted, looks_like_datetime, underscores_fit, underscore_radix, is_decimal}
use Rattle.toml_parser.specs.Strings.{Key, simple_key, key_after, key, quoted, starts_string, recursion_limit}
use Rattle.toml.specs.Data.{Data, string, array, table, Items, no_items, Members, push_item}
use Rattle.toml.specs.Tables.{Nodes, no_nodes, close, key_value, std_table, array_table, Expression, Document, put, define}
use Rattle.toml.specs.Parse.{after_byte, after_element, key_equals, keyval, items, members, scalar_data, atom, val, header_key, expression, line, ends_line, lines, skip_bom, parse_document}
use Rattle.schema_print.proofs.Sound.{Held, Sound, SoundItems, SoundMembers, SoundNodes, SoundDefinition, some_value, map_inv, push_sound, close_sound, put_sound, define_sound}
use Rattle.schema_print.proofs.Strings.{cond_inv, then_inv, one_line_sound, quoted_sound}
use Rattle.schema_print.proofs.Tails.{Tail, whole, tail-drop, tail-skip_ws, tail-skip_from}

-- ---- numbers and words

abbrev SoundScalar : Scalar → Type 0
SoundScalar x = Sound (scalar_data x)

signed_held : (negative : Bool) (n : ℕ) → (nat_lt n (2 ^ 63) || (negative && n == 2 ^ 63)) ≡ true → Held (with_sign negative n)
signed_held true zero fits = tt
signed_held true (suc n) fits = grind (arith, nat_tests)
signed_held false n fits = tt

integer_sound : (negative : Bool) (n : ℕ) (x : Scalar) → integer_of negative n ≡ Some x → SoundScalar x
integer_sound negative n x gives =
    cond_inv (nat_lt n (2 ^ 63) || (negative && n == 2 ^ 63)) _ _ x gives
    (λ fits gives. subst SoundScalar (some_value (Integer (with_sign negative n)) x gives) (signed_held negative n fits))
    (λ _ gives. absurd cc)

prefixed_sound : (radix : ℕ) (digits : List ℕ) (x : Scalar) → prefixed_integer radix digits ≡ Some x → SoundScalar x
unfolding prefixed_integer
prefixed_sound radix digits x gives =
    cond_inv ((nat_lt 0 (length digits) && list_all (λ c. is_digit c radix) digits) && nat_lt (digits_value radix digits) (2 ^ 63)) _ _ x gives
    (λ _ gives. subst SoundScalar (some_value (Integer (pos (digits_value radix digits))) x gives) tt)
    (λ _ gives. absurd cc)

float_sound : (negative : Bool) (p : Parts) (x : Scalar) → float_of negative p ≡ Some x → SoundScalar x
float_sound negative p x gives =
    cond_inv (float_is_finite (nearest binary64 negative p)) _ _ x gives
    (λ _ gives. subst SoundScalar (some_value (Float (nearest binary64 negative p)) x gives) tt)
    (λ _ gives. absurd cc)

decimal_sound : (negative : Bool) (word : List ℕ) (x : Scalar) → decimal_number negative word ≡ Some x → SoundScalar x
unfolding decimal_number
decimal_sound negative word x gives =
    cond_inv (bytes_eq word (codes "inf")) _ _ x gives (λ _ gives. subst SoundScalar (some_value (Float (inf negative)) x gives) tt) (λ _ gives.
    cond_inv (bytes_eq word (codes "nan")) _ _ x gives (λ _ gives. subst SoundScalar (some_value (Float nan) x gives) tt) (λ _ gives.
    cond_inv (not ((scan word).len == length word && is_decimal (scan word))) _ _ x gives (λ _ gives. absurd cc) (λ _ gives.
    cond_inv ((scan word).point || nat_lt 0 (length (scan word).exponent)) _ _ x gives
    (λ _ gives. float_sound negative (scan word) x gives)
    (λ _ gives. integer_sound negative (digits_of (scan word)) x gives))))

plain_sound : (word : List ℕ) (x : Scalar) → plain_number word ≡ Some x → SoundScalar x
unfolding plain_number
plain_sound word x gives =
    cond_inv (not (radix_of word == 10)) _ _ x gives (λ _ gives. prefixed_sound (radix_of word) (drop 2 word) x gives) (λ _ gives.
    cond_inv (first word == dash) _ _ x gives (λ _ gives. decimal_sound true (drop 1 word) x gives) (λ _ gives.
    cond_inv (first word == plus) _ _ x gives (λ _ gives. decimal_sound false (drop 1 word) x gives) (λ _ gives. decimal_sound false word x gives)))

number_sound : (word : List ℕ) (x : Scalar) → number word ≡ Some x → SoundScalar x
unfolding number
number_sound word x gives =
    cond_inv (underscores_fit (λ c. is_digit c (underscore_radix word)) 0 word) _ _ x gives (λ _ gives. plain_sound (filter (λ c. not (c == underscore)) word) x gives) (λ _ gives. absurd cc)

word_sound : (word : List ℕ) (x : Scalar) → word_value word ≡ Some x → SoundScalar x
unfolding word_value
word_sound word x gives =
    cond_inv (bytes_eq word (codes "true")) _ _ x gives (λ _ gives. subst SoundScalar (some_value (Boolean true) x gives) tt) (λ _ gives.
    cond_inv (bytes_eq word (codes "false")) _ _ x gives (λ _ gives. subst SoundScalar (some_value (Boolean false) x gives) tt) (λ _ gives.
    cond_inv (looks_like_datetime word) _ _ x gives (λ _ gives. map_inv Datetime (parse_datetime word) x gives (λ dt made same. subst SoundScalar same tt)) (λ _ gives. number_sound word x gives)))

-- ---- values

-- what is read, and what is left of the text
abbrev Got : Data × List ℕ → Type 0
Got r = Sound r.0 × Tail r.1

abbrev SoundReader : (List ℕ → Option (Data × List ℕ)) → Type 0
SoundReader read = (text : List ℕ) (r : Data × List ℕ) → Tail text → read text ≡ Some r → Got r

abbrev GotScalar : Scalar × List ℕ → Type 0
GotScalar q = SoundScalar q.0 × Tail q.1

unquoted_sound : (text : List ℕ) (q : Scalar × List ℕ) → Tail text → unquoted text ≡ Some q → GotScalar q
unfolding unquoted
unquoted_sound text q t gives =
    cond_inv (word_len text == 0) _ _ q gives (λ _ gives. absurd cc) (λ _ gives.
    map_inv (λ d. (d, drop (word_len text) text)) (word_value (take (word_len text) text)) q gives (λ d made same.
    subst GotScalar same (word_sound (take (word_len text) text) d made, tail-drop (word_len text) text t)))

atom_sound : SoundReader atom
unfolding atom
atom_sound text r t gives =
    cond_inv (starts_string text) _ _ r gives
    (λ starts gives. map_inv (λ p. (string p.0, p.1)) (quoted text) r gives (λ q made same.
    let both = quoted_sound text q starts t made in
    subst Got same (is_utf8-from_IsUtf8 q.0 both.0, both.1)))
    (λ _ gives. map_inv (λ p. (scalar_data p.0, p.1)) (unquoted text) r gives (λ q made same. subst Got same (unquoted_sound text q t made)))

-- ---- keys

simple_tail : (text : List ℕ) (q : List ℕ × List ℕ) → Tail text → simple_key text ≡ Some q → Tail q.1
unfolding simple_key
simple_tail text q t gives =
    cond_inv (starts_string text) _ _ q gives (λ starts gives. (one_line_sound text q starts t gives).1) (λ _ gives.
    cond_inv (is_bare (first text)) _ _ q gives
    (λ _ gives. subst (λ (x : List ℕ × List ℕ). Tail x.1) (some_value (split_while is_bare text) q gives) (tail-drop _ text t))
    (λ _ gives. absurd cc))

key_after_tail : (n : ℕ) (path : List (List ℕ)) (text : List ℕ) (q : Key × List ℕ) → Tail text → key_after n path text ≡ Some q → Tail q.1
unfolding key_after
key_after_tail zero path text q t gives = absurd cc
key_after_tail (suc n) path text q t gives =
    then_inv _ (simple_key text) q gives (λ part made gives.
    let rest = tail-skip_ws part.1 (simple_tail text part t made) in
    cond_inv (first (skip_ws part.1) == dot) _ _ q gives
    (λ _ gives. key_after_tail n (path ++ part.0 ∷ []) (skip_ws (drop 1 (skip_ws part.1))) q (tail-skip_ws _ (tail-drop 1 _ rest)) gives)
    (λ _ gives. subst (λ (x : Key × List ℕ). Tail x.1) (some_value ((path, part.0), skip_ws part.1) q gives) rest))

key_tail : (text : List ℕ) (q : Key × List ℕ) → Tail text → key text ≡ Some q → Tail q.1
key_tail text q t gives = key_after_tail recursion_limit [] text q t gives

after_tail : (byte : ℕ) (text rest : List ℕ) → Tail text → after_byte byte text ≡ Some rest → Tail rest
after_tail byte text rest t gives =
    cond_inv (first text == byte) _ _ rest gives (λ _ gives. subst Tail (some_value (drop 1 text) rest gives) (tail-drop 1 text t)) (λ _ gives. absurd cc)

key_equals_tail : (text : List ℕ) (q : Key × List ℕ) → Tail text → key_equals text ≡ Some q → Tail q.1
unfolding key_equals
key_equals_tail text q t gives =
    then_inv _ (key text) q gives (λ k made gives.
    map_inv (λ rest. (k.0, skip_ws rest)) (after_byte equals k.1) q gives (λ rest at same.
    subst (λ (x : Key × List ℕ). Tail x.1) same (tail-skip_ws rest (after_tail equals k.1 rest (key_tail text k t made) at))))

abbrev GotPair : (Key × Data) × List ℕ → Type 0
GotPair e = Sound e.0.1 × Tail e.1

keyval_sound : (val : List ℕ → Option (Data × List ℕ)) → SoundReader val → (text : List ℕ) (e : (Key × Data) × List ℕ) → Tail text → keyval val text ≡ Some e → GotPair e
keyval_sound val sound text e t gives =
    then_inv _ (key_equals text) e gives (λ k made gives.
    map_inv (λ p. ((k.0, p.0), p.1)) (val k.1) e gives (λ p read same.
    subst GotPair same (sound k.1 p (key_equals_tail text k t made) read)))

-- ---- arrays and inline tables

after_element_tail : (closing : ℕ) (text rest : List ℕ) → Tail text → after_element closing text ≡ Some rest → Tail rest
unfolding after_element
after_element_tail closing text rest t gives =
    let blank = tail-skip_from true false text t in
    cond_inv (first (skip_blank text) == comma) _ _ rest gives (λ _ gives. subst Tail (some_value (drop 1 (skip_blank text)) rest gives) (tail-drop 1 _ blank)) (λ _ gives.
    cond_inv (first (skip_blank text) == closing) _ _ rest gives (λ _ gives. subst Tail (some_value (skip_blank text) rest gives) blank) (λ _ gives. absurd cc))

abbrev GotItems : Items × List ℕ → Type 0
GotItems r = SoundItems r.0 × Tail r.1

items_sound : (val : List ℕ → Option (Data × List ℕ)) → SoundReader val → (n : ℕ) (found : Items) (text : List ℕ) (r : Items × List ℕ) → SoundItems found → Tail text → items val n found text ≡ Some r → GotItems r
unfolding items
items_sound val sound zero found text r all t gives = absurd cc
items_sound val sound (suc n) found text r all t gives =
    let blank = tail-skip_from true false text t in
    cond_inv (first (skip_blank text) == right_bracket) _ _ r gives
    (λ _ gives. subst GotItems (some_value (found, drop 1 (skip_blank text)) r gives) (all, tail-drop 1 _ blank))
    (λ _ gives. then_inv _ (val (skip_blank text)) r gives (λ v made gives.
    let here = sound (skip_blank text) v blank made in
    then_inv _ (after_element right_bracket v.1) r gives (λ rest at gives.
    items_sound val sound n (push_item found v.0) rest r (push_sound found v.0 all here.0) (after_element_tail right_bracket v.1 rest here.1 at) gives)))

abbrev GotMembers : Members × List ℕ → Type 0
GotMembers r = SoundMembers r.0 × Tail r.1

members_sound : (val : List ℕ → Option (Data × List ℕ)) → SoundReader val → (n : ℕ) (found : Nodes) (text : List ℕ) (r : Members × List ℕ) → SoundNodes found → Tail text → members val n found text ≡ Some r → GotMembers r
unfolding members
members_sound val sound zero found text r all t gives = absurd cc
members_sound val sound (suc n) found text r all t gives =
    let blank = tail-skip_from true false text t in
    cond_inv (first (skip_blank text) == right_brace) _ _ r gives
    (λ _ gives. subst GotMembers (some_value (close found, drop 1 (skip_blank text)) r gives) (close_sound found all, tail-drop 1 _ blank))
    (λ _ gives. then_inv _ (keyval val (skip_blank text)) r gives (λ e made gives.
    let here = keyval_sound val sound (skip_blank text) e blank made in
    then_inv _ (put e.0.0 e.0.1 found) r gives (λ more placed gives.
    then_inv _ (after_element right_brace e.1) r gives (λ rest at gives.
    members_sound val sound n more rest r (put_sound e.0.0.0 e.0.0.1 e.0.1 here.0 found more all placed) (after_element_tail right_brace e.1 rest here.1 at) gives))))

val_sound : (depth : ℕ) → SoundReader (val depth)
unfolding val
val_sound zero text r t gives = atom_sound text r t gives
val_sound (suc depth) text r t gives =
    cond_inv (first text == left_bracket) _ _ r gives
    (λ _ gives. map_inv (λ p. (array p.0, p.1)) (items (val depth) (length text) no_items (drop 1 text)) r gives (λ p made same.
    subst Got same (items_sound (val depth) (val_sound depth) (length text) no_items (drop 1 text) p tt (tail-drop 1 text t) made)))
    (λ _ gives. cond_inv (first text == left_brace) _ _ r gives
    (λ _ gives. map_inv (λ p. (table p.0, p.1)) (members (val depth) (length text) no_nodes (drop 1 text)) r gives (λ p made same.
    subst Got same (members_sound (val depth) (val_sound depth) (length text) no_nodes (drop 1 text) p tt (tail-drop 1 text t) made)))
    (λ _ gives. atom_sound text r t gives))

-- ---- lines

header_key_tail : (text : List ℕ) (q : Key × List ℕ) → Tail text → header_key text ≡ Some q → Tail q.1
unfolding header_key
header_key_tail text q t gives =
    then_inv _ (key (skip_ws text)) q gives (λ k made gives.
    map_inv (λ rest. (k.0, rest)) (after_byte right_bracket k.1) q gives (λ rest at same.
    subst (λ (x : Key × List ℕ). Tail x.1) same (after_tail right_bracket k.1 rest (key_tail (skip_ws text) k (tail-skip_ws text t) made) at)))

abbrev GotExpression : Expression × List ℕ → Type 0
GotExpression e = SoundDefinition e.0.1 × Tail e.1

expression_sound : (text : List ℕ) (e : Expression × List ℕ) → Tail text → expression text ≡ Some e → GotExpression e
unfolding expression
expression_sound text e t gives =
    cond_inv (first text == left_bracket && slice_index text 1 == left_bracket) _ _ e gives
    (λ _ gives. then_inv _ (header_key (drop 2 text)) e gives (λ k made gives.
    map_inv (λ rest. ((k.0, array_table), rest)) (after_byte right_bracket k.1) e gives (λ rest at same.
    subst GotExpression same (tt, after_tail right_bracket k.1 rest (header_key_tail (drop 2 text) k (tail-drop 2 text t) made) at))))
    (λ _ gives. cond_inv (first text == left_bracket) _ _ e gives
    (λ _ gives. map_inv (λ p. ((p.0, std_table), p.1)) (header_key (drop 1 text)) e gives (λ k made same.
    subst GotExpression same (tt, header_key_tail (drop 1 text) k (tail-drop 1 text t) made)))
    (λ _ gives. map_inv (λ p. ((p.0.0, key_value p.0.1), p.1)) (keyval (val recursion_limit) text) e gives (λ p made same.
    subst GotExpression same (keyval_sound (val recursion_limit) (val_sound recursion_limit) text p t made))))

line_sound : (text : List ℕ) (e : Expression × List ℕ) → Tail text → line text ≡ Some e → GotExpression e
unfolding line
line_sound text e t gives =
    then_inv _ (expression text) e gives (λ x made gives.
    cond_inv (ends_line (skip_ws x.1)) _ _ e gives (λ _ gives. subst GotExpression (some_value x e gives) (expression_sound text x t made)) (λ _ gives. absurd cc))

lines_sound : (n : ℕ) (doc last : Document) (text : List ℕ) → SoundNodes doc.0 → Tail text → lines n doc text ≡ Some last → SoundNodes last.0
unfolding lines
lines_sound zero doc last text all t gives = absurd cc
lines_sound (suc n) doc last text all t gives =
    let blank = tail-skip_from true false text t in
    cond_inv (length (skip_blank text) == 0) _ _ last gives
    (λ _ gives. subst (λ (x : Document). SoundNodes x.0) (some_value doc last gives) all)
    (λ _ gives. then_inv _ (line (skip_blank text)) last gives (λ e made gives.
    let here = line_sound (skip_blank text) e blank made in
    then_inv _ (define doc e.0) last gives (λ next defined gives.
    lines_sound n next last e.1 (define_sound doc next e.0.0.0 e.0.0.1 e.0.1 here.0 all defined) here.1 gives)))

bom_by : (b : Bool) (text : List ℕ) → Tail text → Tail (cond b (drop 3 text) text)
bom_by true text t = tail-drop 3 text t
bom_by false text t = t

tail-skip_bom : (text : List ℕ) → Tail text → Tail (skip_bom text)
unfolding skip_bom
tail-skip_bom text t = bom_by _ text t

pub document_sound : (text : List ℕ) (ms : Members) → is_utf8 text ≡ true → parse_document text ≡ Some ms → SoundMembers ms
unfolding parse_document
document_sound text ms valid gives =
    map_inv (λ doc. close doc.0) (lines (suc (length text)) (no_nodes, []) (skip_bom text)) ms gives (λ doc made same.
    subst SoundMembers same (close_sound doc.0 (lines_sound (suc (length text)) (no_nodes, []) doc (skip_bom text) tt (tail-skip_bom text (whole text (IsUtf8-from_is_utf8 text valid))) made)))
