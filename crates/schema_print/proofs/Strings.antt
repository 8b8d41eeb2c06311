-- The strings of a UTF-8 text are UTF-8.
use Rattle.std.proofs.Common.{◌≡◌, ℕ, zero, suc, ◌<◌, ◌&&◌, ◌||◌, ◌==◌, Bool, true, false, cond, nat_lt, nat_le, List, [], ◌∷◌, ◌++◌, length, take, drop, slice_index, IsUtf8, Option, Some, None, option_and_then, refl, subst, append_assoc, arith}
use Rattle.std.proofs.lemmas.Bool.{and_parts, false≢true}
use Rattle.std.proofs.lemmas.Bool.Decides.{nat_tests}
use Rattle.std.proofs.lemmas.List.{append-nil}
use Rattle.std.proofs.lemmas.Str.{IsUtf8-append, IsUtf8-encode, IsUtf8-nil, IsUtf8-from_ascii}
use Rattle.std.specs.Char.{IsScalar, encode_utf8, is_digit}
use Rattle.std.specs.List.{prefix_len, list_all}
use Rattle.std.specs.Str.Parse.{digits_value}
use Rattle.toml_parser.specs.Lexical.{Read, starts_newline, skip_ws, skip_lines, backslash, quote, line_feed}
use Rattle.toml_parser.specs.Strings.{simple_escape, hex_len, is_scalar, hex_escape, escape_char, escape, is_plain, special, after_piece, body, trim_newline, one_line, quoted, starts_string}
use Rattle.schema_print.proofs.Sound.{some_value, map_inv}
use Rattle.schema_print.proofs.Tails.{Tail, whole, tail-drop, utf8_before, utf8_behind, utf8-skip_lines}

pub cond_inv : {A G : Type 0} (b : Bool) (x y : Option A) (q : A) → cond b x y ≡ Some q → (b ≡ true → x ≡ Some q → G) → (b ≡ false → y ≡ Some q → G) → G
cond_inv true x y q gives first_ second_ = first_ refl gives
cond_inv false x y q gives first_ second_ = second_ refl gives

pub then_inv : {A B G : Type 0} (f : A → Option B) (o : Option A) (b : B) → option_and_then f o ≡ Some b → ((a : A) → o ≡ Some a → f a ≡ Some b → G) → G
then_inv f None b gives so = absurd cc
then_inv f (Some a) b gives so = so a refl gives

one_at : (c i : ℕ) → c < 128 → slice_index (c ∷ []) i < 128
one_at c zero low = low
one_at c (suc i) low = omega arith

ascii_one : (c : ℕ) → c < 128 → IsUtf8 (c ∷ [])
ascii_one c low = IsUtf8-from_ascii (c ∷ []) (λ i. one_at c i low)

-- ---- escapes

scalar_by : (c : ℕ) → is_scalar c ≡ true → IsScalar c
scalar_by c gives = grind (arith, nat_tests)

simple_at : (c x v d : ℕ) → (c == x) ≡ true → x < 128 → is_scalar v ≡ true → Some v ≡ Some d → (c < 128) × (is_scalar d ≡ true)
simple_at c x v d same low scalar gives = let ascii : c < 128 = grind (arith, nat_tests) in (ascii, subst (λ (y : ℕ). is_scalar y ≡ true) (some_value v d gives) scalar)

simple_sound : (c d : ℕ) → simple_escape c ≡ Some d → (c < 128) × (is_scalar d ≡ true)
simple_sound c d gives =
    cond_inv (c == 0x62) _ _ d gives (λ same gives. simple_at c 0x62 0x08 d same (omega arith) refl gives) (λ _ gives.
    cond_inv (c == 0x65) _ _ d gives (λ same gives. simple_at c 0x65 0x1B d same (omega arith) refl gives) (λ _ gives.
    cond_inv (c == 0x66) _ _ d gives (λ same gives. simple_at c 0x66 0x0C d same (omega arith) refl gives) (λ _ gives.
    cond_inv (c == 0x6E) _ _ d gives (λ same gives. simple_at c 0x6E 10 d same (omega arith) refl gives) (λ _ gives.
    cond_inv (c == 0x72) _ _ d gives (λ same gives. simple_at c 0x72 13 d same (omega arith) refl gives) (λ _ gives.
    cond_inv (c == 0x74) _ _ d gives (λ same gives. simple_at c 0x74 9 d same (omega arith) refl gives) (λ _ gives.
    cond_inv (c == quote || c == backslash) _ _ d gives
    (λ same gives. let low : c < 128 = grind (arith, nat_tests) in let whole_ : is_scalar c ≡ true = grind (arith, nat_tests) in (low, subst (λ (x : ℕ). is_scalar x ≡ true) (some_value c d gives) whole_))
    (λ _ gives. absurd cc)))))))

hex_ascii : (c : ℕ) → nat_lt 0 (hex_len c) ≡ true → c < 128
hex_ascii c gives = grind (arith, nat_tests)

digit_ascii : (c : ℕ) → is_digit c 16 ≡ true → c < 128
digit_ascii c gives = grind (arith, nat_tests)

digits_behind : (n : ℕ) (text : List ℕ) → list_all (λ c. is_digit c 16) (take n text) ≡ true → IsUtf8 text → IsUtf8 (drop n text)
digits_behind zero text all valid = valid
digits_behind (suc n) [] all valid = valid
digits_behind (suc n) (c ∷ cs) all valid =
    let both = and_parts (is_digit c 16) (list_all (λ x. is_digit x 16) (take n cs)) all in
    digits_behind n cs both.1 (utf8_behind [] c cs (digit_ascii c both.0) valid)

abbrev Escaped : ℕ × List ℕ → Type 0
Escaped q = IsScalar q.0 × IsUtf8 q.1

hex_sound : (n : ℕ) (text : List ℕ) (q : ℕ × List ℕ) → IsUtf8 text → hex_escape n text ≡ Some q → Escaped q
unfolding hex_escape
hex_sound n text q valid gives =
    let digits = take n text in
    cond_inv ((nat_le n (length text) && list_all (λ c. is_digit c 16) digits) && is_scalar (digits_value 16 digits)) _ _ q gives
    (λ all gives.
    let both = and_parts (nat_le n (length text) && list_all (λ c. is_digit c 16) digits) (is_scalar (digits_value 16 digits)) all in
    let inner = and_parts (nat_le n (length text)) (list_all (λ c. is_digit c 16) digits) both.0 in
    subst Escaped (some_value (digits_value 16 digits, drop n text) q gives) (scalar_by (digits_value 16 digits) both.1, digits_behind n text inner.1 valid))
    (λ _ gives. absurd cc)

escape_char_sound : (text : List ℕ) (q : ℕ × List ℕ) → IsUtf8 text → escape_char text ≡ Some q → Escaped q
unfolding escape_char
escape_char_sound [] q valid gives = absurd cc
escape_char_sound (c ∷ cs) q valid gives =
    cond_inv (nat_lt 0 (hex_len c)) _ _ q gives
    (λ hex gives. hex_sound (hex_len c) cs q (utf8_behind [] c cs (hex_ascii c hex) valid) gives)
    (λ _ gives. map_inv (λ d. (d, cs)) (simple_escape c) q gives (λ d made same.
    let both = simple_sound c d made in
    subst Escaped same (scalar_by d both.1, utf8_behind [] c cs both.0 valid)))

abbrev Both : List ℕ × List ℕ → Type 0
Both e = IsUtf8 e.0 × IsUtf8 e.1

escape_sound : (multi : Bool) (text : List ℕ) (e : List ℕ × List ℕ) → IsUtf8 text → escape multi text ≡ Some e → Both e
unfolding escape
escape_sound multi text e valid gives =
    cond_inv (multi && starts_newline (skip_ws text)) _ _ e gives
    (λ _ gives. subst Both (some_value ([], skip_lines text) e gives) (IsUtf8-nil, utf8-skip_lines text valid))
    (λ _ gives. map_inv (λ q. (encode_utf8 q.0, q.1)) (escape_char text) e gives (λ q made same.
    let both = escape_char_sound text q valid made in
    subst Both same (IsUtf8-encode q.0 both.0, both.1)))

-- ---- pieces

-- what a byte that is not plain stands for, behind the bytes p of the string
abbrev PieceSound : Option (List ℕ) → List ℕ → Type 0
PieceSound None rest = Unit {0}
PieceSound (Some bytes) rest = IsUtf8 bytes × IsUtf8 rest

record Piece (p : List ℕ) (q : Option (List ℕ) × List ℕ) : Type 0 where
  before : IsUtf8 p
  piece : PieceSound q.0 q.1
  rest : Tail q.1

newline_ascii : (multi : Bool) (c : ℕ) (cs : List ℕ) → (multi && starts_newline (c ∷ cs)) ≡ true → c < 128
newline_ascii multi c cs gives = grind (arith, nat_tests)

special_sound : (delim : ℕ) (multi : Bool) (p text : List ℕ) (q : Option (List ℕ) × List ℕ) → 0 < delim → delim < 128 → IsUtf8 (p ++ text) → special delim multi text ≡ Some q → Piece p q
unfolding special
special_sound delim multi p [] q some ascii valid gives =
    cond_inv (0 == delim) _ _ q gives
    (λ same gives. let never : ⊥ = grind (arith, nat_tests) in absurd never)
    (λ _ gives. cond_inv (multi && false) _ _ q gives (λ both gives. absurd (false≢true (and_parts multi false both).1)) (λ _ gives. absurd cc))
special_sound delim multi p (c ∷ cs) q some ascii valid gives =
    cond_inv (c == delim) _ _ q gives
    (λ same gives.
    let low : c < 128 = grind (arith, nat_tests) in
    let before = utf8_before p c cs low valid in
    let behind = utf8_behind p c cs low valid in
    cond_inv multi _ _ q gives
    (λ _ gives. cond_inv (prefix_len (λ x. x == delim) (c ∷ cs) == 3) _ _ q gives
    (λ _ gives. subst (Piece p) (some_value (None, drop 3 (c ∷ cs)) q gives) (record { before = before; piece = tt; rest = tail-drop 3 (c ∷ cs) (record { front = p; valid = valid }) }))
    (λ _ gives. cond_inv (nat_lt (prefix_len (λ x. x == delim) (c ∷ cs)) 6) _ _ q gives
    (λ _ gives. subst (Piece p) (some_value (Some (delim ∷ []), cs) q gives) (record { before = before; piece = (ascii_one delim ascii, behind); rest = whole cs behind }))
    (λ _ gives. absurd cc)))
    (λ _ gives. subst (Piece p) (some_value (None, cs) q gives) (record { before = before; piece = tt; rest = whole cs behind })))
    (λ _ gives. cond_inv (c == backslash) _ _ q gives
    (λ same gives.
    let low : c < 128 = grind (arith, nat_tests) in
    map_inv (λ e. (Some e.0, e.1)) (escape multi cs) q gives (λ e made is.
    let both = escape_sound multi cs e (utf8_behind p c cs low valid) made in
    subst (Piece p) is (record { before = utf8_before p c cs low valid; piece = both; rest = whole e.1 both.1 })))
    (λ _ gives. cond_inv (multi && starts_newline (c ∷ cs)) _ _ q gives
    (λ newline gives.
    let low = newline_ascii multi c cs newline in
    let behind = utf8_behind p c cs low valid in
    subst (Piece p) (some_value (Some (c ∷ []), cs) q gives) (record { before = utf8_before p c cs low valid; piece = (ascii_one c low, behind); rest = whole cs behind }))
    (λ _ gives. absurd cc)))

-- ---- bodies

-- the string with the bytes p before it, and what is left
abbrev Ended : List ℕ → List ℕ × List ℕ → Type 0
Ended p r = IsUtf8 (p ++ r.0) × Tail r.1

no_plain : (delim : ℕ) (multi : Bool) → is_plain delim multi 0 ≡ true → ⊥
no_plain delim multi plain = grind (arith, nat_tests)

piece_sound : (more : List ℕ → Read (List ℕ)) (p : List ℕ) (piece : Option (List ℕ)) (rest : List ℕ) (r : List ℕ × List ℕ) → Piece p (piece, rest)
    → ((text : List ℕ) (x : List ℕ × List ℕ) → IsUtf8 text → more text ≡ Some x → Ended [] x) → after_piece more piece rest ≡ Some r → Ended p r
piece_sound more p None rest r sound go_on gives = subst (Ended p) (some_value ([], rest) r gives) (rw (append-nil p) sound.before, sound.rest)
piece_sound more p (Some bytes) rest r sound go_on gives =
    map_inv (λ x. (bytes ++ x.0, x.1)) (more rest) r gives (λ x made same.
    let ended = go_on rest x sound.piece.1 made in
    subst (Ended p) same (IsUtf8-append p (bytes ++ x.0) sound.before (IsUtf8-append bytes x.0 sound.piece.0 ended.0), ended.1))

body_sound : (delim : ℕ) (multi : Bool) (n : ℕ) (p text : List ℕ) (r : List ℕ × List ℕ) → 0 < delim → delim < 128 → IsUtf8 (p ++ text) → body delim multi n text ≡ Some r → Ended p r
unfolding body
body_sound delim multi zero p text r some ascii valid gives = absurd cc
body_sound delim multi (suc n) p [] r some ascii valid gives =
    cond_inv (is_plain delim multi 0) _ _ r gives
    (λ plain _. absurd (no_plain delim multi plain))
    (λ _ gives. then_inv (λ q. after_piece (body delim multi n) q.0 q.1) (special delim multi []) r gives (λ q made gives.
    piece_sound (body delim multi n) p q.0 q.1 r (special_sound delim multi p [] q some ascii valid made) (λ text x valid gives. body_sound delim multi n [] text x some ascii valid gives) gives))
body_sound delim multi (suc n) p (c ∷ cs) r some ascii valid gives =
    cond_inv (is_plain delim multi c) _ _ r gives
    (λ _ gives. map_inv (λ x. (c ∷ x.0, x.1)) (body delim multi n cs) r gives (λ x made same.
    let ended = body_sound delim multi n (p ++ c ∷ []) cs x some ascii (rw append_assoc valid) made in
    subst (Ended p) same (rw append_assoc at ended.0, ended.1)))
    (λ _ gives. then_inv (λ q. after_piece (body delim multi n) q.0 q.1) (special delim multi (c ∷ cs)) r gives (λ q made gives.
    piece_sound (body delim multi n) p q.0 q.1 r (special_sound delim multi p (c ∷ cs) q some ascii valid made) (λ text x valid gives. body_sound delim multi n [] text x some ascii valid gives) gives))

-- ---- strings at their delimiters

-- a string and what is left of the text
abbrev pub Quoted : List ℕ × List ℕ → Type 0
Quoted r = IsUtf8 r.0 × Tail r.1

trim_by : (a b : Bool) (x y z : List ℕ) → (a ≡ true → IsUtf8 x) → (a ≡ false → b ≡ true → IsUtf8 y) → IsUtf8 z → IsUtf8 (cond a x (cond b y z))
trim_by true b x y z first_ second_ third = first_ refl
trim_by false true x y z first_ second_ third = second_ refl refl
trim_by false false x y z first_ second_ third = third

pair_ascii : (c d : ℕ) (rest : List ℕ) → (c == line_feed || (c == 13 && d == line_feed)) ≡ true → (c == line_feed) ≡ false → d < 128
pair_ascii c d rest same other = grind (arith, nat_tests)

trim_sound : (text : List ℕ) → IsUtf8 text → IsUtf8 (trim_newline text)
trim_sound [] valid = valid
trim_sound (c ∷ []) valid = trim_by (c == line_feed) (starts_newline (c ∷ [])) [] [] (c ∷ []) (λ _. IsUtf8-nil) (λ _ _. IsUtf8-nil) valid
trim_sound (c ∷ d ∷ rest) valid =
    trim_by (c == line_feed) (starts_newline (c ∷ d ∷ rest)) (d ∷ rest) rest (c ∷ d ∷ rest)
    (λ same. let low : c < 128 = grind (arith, nat_tests) in utf8_behind [] c (d ∷ rest) low valid)
    (λ other same.
    let low : c < 128 = grind (arith, nat_tests) in
    let next : d < 128 = pair_ascii c d rest same other in
    utf8_behind [] d rest next (utf8_behind [] c (d ∷ rest) low valid))
    valid

three_behind : (c : ℕ) (cs : List ℕ) → 0 < c → c < 128 → (slice_index (c ∷ cs) 1 == c && slice_index (c ∷ cs) 2 == c) ≡ true → IsUtf8 cs → IsUtf8 (drop 3 (c ∷ cs))
three_behind c [] some low same valid = valid
three_behind c (a ∷ []) some low same valid = IsUtf8-nil
three_behind c (a ∷ b ∷ rest) some low same valid =
    let first_ : a < 128 = grind (arith, nat_tests) in
    let second_ : b < 128 = grind (arith, nat_tests) in
    utf8_behind [] b rest second_ (utf8_behind [] a (b ∷ rest) first_ valid)

pub one_line_sound : (text : List ℕ) (r : List ℕ × List ℕ) → starts_string text ≡ true → Tail text → one_line text ≡ Some r → Quoted r
unfolding one_line
one_line_sound [] r starts t gives = absurd cc
one_line_sound (c ∷ cs) r starts t gives =
    let some : 0 < c = grind (arith, nat_tests) in
    let low : c < 128 = grind (arith, nat_tests) in
    body_sound c false (length (c ∷ cs)) [] cs r some low (utf8_behind t.front c cs low t.valid) gives

pub quoted_sound : (text : List ℕ) (r : List ℕ × List ℕ) → starts_string text ≡ true → Tail text → quoted text ≡ Some r → Quoted r
unfolding quoted
quoted_sound [] r starts t gives = absurd cc
quoted_sound (c ∷ cs) r starts t gives =
    let some : 0 < c = grind (arith, nat_tests) in
    let low : c < 128 = grind (arith, nat_tests) in
    cond_inv (slice_index (c ∷ cs) 1 == c && slice_index (c ∷ cs) 2 == c) _ _ r gives
    (λ same gives. body_sound c true (length (c ∷ cs)) [] (trim_newline (drop 3 (c ∷ cs))) r some low (trim_sound (drop 3 (c ∷ cs)) (three_behind c cs some low same (utf8_behind t.front c cs low t.valid))) gives)
    (λ _ gives. one_line_sound (c ∷ cs) r starts t gives)
