-- The line of an element is parted into its path and its value, and a line of words stays.
use Rattle.std.proofs.Common.{◌≡◌, ℕ, ◌==◌, Bool, true, false, ◌&&◌, not, List, [], ◌∷◌, ◌++◌, refl, ap, sym, ◌∙◌, subst, arith, append_assoc}
use Rattle.std.specs.Prelude.{Some, None, codes, if◌then◌else◌}
use Rattle.std.specs.Option.{option_map}
use Rattle.std.proofs.lemmas.Bool.{false≢true}
use Rattle.text_names.specs.Bare.{bare, behind_one, cut_at, is_blank, trimmed, uncommented, unended, unindented}
use Rattle.text_names.specs.declared.bare.Quote.TheVariants.{Outside, Inside}
use Rattle.text_names.specs.Lines.{element, line_of, by_parts}
use Rattle.text_names.proofs.Blanks.{other_last, blank_last}
use Rattle.text_names.proofs.Bytes.{both_left, both_right, is_plain, are_plain, lacks, lacks_append, plain_lacks, plain_other}

-- ---- cuts

cut_by : (byte b : ℕ) (bs : List ℕ) (t : Bool) (p : List ℕ × List ℕ) → (not t && true) ≡ true → cut_at byte bs ≡ Some p
    → (if t then Some ([], bs) else option_map (behind_one b) (cut_at byte bs)) ≡ Some (b ∷ p.0, p.1)
cut_by byte b bs true p h e = absurd (false≢true h)
cut_by byte b bs false p h e = ap (option_map (behind_one b)) e

and_true : (t : Bool) → t ≡ true → (t && true) ≡ true
and_true true e = refl
and_true false e = e

same_byte : (b : ℕ) → (b == b) ≡ true
same_byte b = grind arith

pub cut_joined : (byte : ℕ) (xs ys : List ℕ) → lacks byte xs ≡ true → cut_at byte (xs ++ byte ∷ ys) ≡ Some (xs, ys)
cut_joined byte [] ys h = rw (same_byte byte) refl
cut_joined byte (x ∷ xs) ys h =
    cut_by byte x (xs ++ byte ∷ ys) (x == byte) (xs, ys) (and_true (not (x == byte)) (both_left (not (x == byte)) (lacks byte xs) h))
    (cut_joined byte xs ys (both_right (not (x == byte)) (lacks byte xs) h))

none_by : (byte b : ℕ) (bs : List ℕ) (t : Bool) → not t ≡ true → cut_at byte bs ≡ None → (if t then Some ([], bs) else option_map (behind_one b) (cut_at byte bs)) ≡ None
none_by byte b bs true h e = absurd (false≢true h)
none_by byte b bs false h e = ap (option_map (behind_one b)) e

pub cut_none : (byte : ℕ) (xs : List ℕ) → lacks byte xs ≡ true → cut_at byte xs ≡ None
cut_none byte [] h = refl
cut_none byte (x ∷ xs) h =
    none_by byte x xs (x == byte) (both_left (not (x == byte)) (lacks byte xs) h) (cut_none byte xs (both_right (not (x == byte)) (lacks byte xs) h))

-- ---- comments

kept_by : (x : ℕ) (xs : List ℕ) (t u : Bool) → t ≡ false → u ≡ false → (if t then [] else x ∷ uncommented (if u then Inside else Outside) xs) ≡ x ∷ uncommented Outside xs
kept_by x xs true u e f = absurd (false≢true (sym e))
kept_by x xs false true e f = absurd (false≢true (sym f))
kept_by x xs false false e f = refl

-- bytes of a path begin no comment and no quotes
pub plain_kept : (xs ys : List ℕ) → are_plain xs ≡ true → uncommented Outside (xs ++ ys) ≡ xs ++ uncommented Outside ys
plain_kept [] ys h = refl
plain_kept (x ∷ xs) ys h =
    let plain : is_plain x ≡ true = both_left (is_plain x) (are_plain xs) h in
    kept_by x (xs ++ ys) (x == 35) (x == 34) (plain_other x 35 plain refl) (plain_other x 34 plain refl)
    ∙ ap (λ (bs : List ℕ). x ∷ bs) (plain_kept xs ys (both_right (is_plain x) (are_plain xs) h))

-- ---- blanks at the ends

pub plain_dark : (b : ℕ) → is_plain b ≡ true → is_blank b ≡ false
plain_dark b h = rw (plain_other b 32 h refl, plain_other b 9 h refl, plain_other b 13 h refl) refl

-- a text ends with no blank
pub record EndsDark (xs : List ℕ) : Type 0 where
  pub front : List ℕ
  pub last : ℕ
  pub split : xs ≡ front ++ last ∷ []
  pub dark : is_blank last ≡ false

-- and begins with none
pub record BeginsDark (xs : List ℕ) : Type 0 where
  pub first : ℕ
  pub rest : List ℕ
  pub split : xs ≡ first ∷ rest
  pub dark : is_blank first ≡ false

pub ends_behind : (xs ys : List ℕ) → EndsDark ys → EndsDark (xs ++ ys)
ends_behind xs ys e = record {
  front = xs ++ e.front;
  last = e.last;
  split = ap (λ (bs : List ℕ). xs ++ bs) e.split ∙ sym (append_assoc xs e.front (e.last ∷ []));
  dark = e.dark;
}

pub begins_before : (xs ys : List ℕ) → BeginsDark xs → BeginsDark (xs ++ ys)
begins_before xs ys e = record { first = e.first; rest = e.rest ++ ys; split = ap (λ (bs : List ℕ). bs ++ ys) e.split; dark = e.dark }

pub plain_ends : (x : ℕ) (xs : List ℕ) → are_plain (x ∷ xs) ≡ true → EndsDark (x ∷ xs)
plain_ends x [] h = record { front = []; last = x; split = refl; dark = plain_dark x (both_left (is_plain x) true h) }
plain_ends x (y ∷ ys) h =
    let rest : are_plain (y ∷ ys) ≡ true = both_right (is_plain x) (are_plain (y ∷ ys)) h in
    ends_behind (x ∷ []) (y ∷ ys) (plain_ends y ys rest)

pub plain_begins : (x : ℕ) (xs : List ℕ) → are_plain (x ∷ xs) ≡ true → BeginsDark (x ∷ xs)
plain_begins x xs h = record { first = x; rest = xs; split = refl; dark = plain_dark x (both_left (is_plain x) (are_plain xs) h) }

pub ended_same : (xs : List ℕ) → EndsDark xs → unended xs ≡ xs
ended_same xs e = ap unended e.split ∙ other_last e.front e.last e.dark ∙ sym e.split

pub begun_same : (xs : List ℕ) → BeginsDark xs → unindented xs ≡ xs
begun_same xs e = ap unindented e.split ∙ ap (λ (t : Bool). if t then unindented e.rest else e.first ∷ e.rest) e.dark ∙ sym e.split

pub trimmed_same : (xs : List ℕ) → BeginsDark xs → EndsDark xs → trimmed xs ≡ xs
trimmed_same xs b e = ap unended (begun_same xs b) ∙ ended_same xs e

-- a blank behind goes
blank_behind : (xs : List ℕ) → BeginsDark xs → EndsDark xs → trimmed (xs ++ 32 ∷ []) ≡ xs
blank_behind xs b e = ap unended (begun_same (xs ++ 32 ∷ []) (begins_before xs (32 ∷ []) b)) ∙ blank_last xs 32 refl ∙ ended_same xs e

-- ---- lines

-- a value that stays as it is between blanks and before a comment
pub record IsQuiet (value : List ℕ) : Type 0 where
  pub kept : uncommented Outside value ≡ value
  pub begins : BeginsDark value
  pub ends : EndsDark value

pub record IsPath (path : List ℕ) : Type 0 where
  pub plain : are_plain path ≡ true
  pub begins : BeginsDark path
  pub ends : EndsDark path

abbrev pub joined_line : List ℕ → List ℕ → List ℕ
joined_line path value = path ++ codes " = " ++ value

pub line_bare : (path value : List ℕ) → IsPath path → IsQuiet value → bare (joined_line path value) ≡ joined_line path value
line_bare path value p q =
    let assoc : joined_line path value ≡ path ++ (codes " = " ++ value) = simp append_assoc refl in
    let kept : uncommented Outside (joined_line path value) ≡ joined_line path value =
    ap (uncommented Outside) assoc ∙ plain_kept path (codes " = " ++ value) p.plain ∙ ap (λ (bs : List ℕ). path ++ (codes " = " ++ bs)) q.kept ∙ sym assoc in
    ap trimmed kept ∙ trimmed_same (joined_line path value)
    (subst BeginsDark (sym assoc) (begins_before path (codes " = " ++ value) p.begins))
    (subst EndsDark (sym assoc) (ends_behind path (codes " = " ++ value) (ends_behind (codes " = ") value q.ends)))

pub line_cut : (path value : List ℕ) → are_plain path ≡ true → cut_at 61 (joined_line path value) ≡ Some (path ++ 32 ∷ [], 32 ∷ value)
line_cut path value p =
    let assoc : joined_line path value ≡ (path ++ 32 ∷ []) ++ 61 ∷ 32 ∷ value = simp append_assoc refl in
    ap (cut_at 61) assoc ∙ cut_joined 61 (path ++ 32 ∷ []) (32 ∷ value) (lacks_append 61 path (32 ∷ []) (plain_lacks 61 refl path p) refl)

pub element_parted : (path value : List ℕ) → IsPath path → IsQuiet value → line_of (joined_line path value) ≡ element path value
element_parted path value p q =
    let trims : trimmed (32 ∷ value) ≡ value = trimmed_same value q.begins q.ends in
    ap (λ (line : List ℕ). by_parts line (cut_at 61 line)) (line_bare path value p q)
    ∙ ap (by_parts (joined_line path value)) (line_cut path value p.plain)
    ∙ ap (λ (a : List ℕ). element a (trimmed (32 ∷ value))) (blank_behind path p.begins p.ends)
    ∙ ap (element path) trims
