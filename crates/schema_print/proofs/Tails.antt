-- What is left of a UTF-8 text behind what was read of it, and what of it is UTF-8 itself.
use Rattle.std.proofs.Common.{◌≡◌, ℕ, suc, ◌+◌, ◌<◌, ◌&&◌, ◌||◌, ◌==◌, Bool, true, false, cond, List, [], ◌∷◌, ◌++◌, length, take, drop, get_or, IsUtf8, Some, None, is_some, unwrap_or, refl, subst, append_assoc, arith}
use Rattle.std.proofs.Math.Seq.{take-append_seam}
use Rattle.std.proofs.lemmas.Bool.Decides.{nat_tests}
use Rattle.std.proofs.lemmas.List.{take-append-drop}
use Rattle.std.proofs.lemmas.Str.{IsUtf8-drop, IsUtf8-take, IsCharBoundary-after_ascii, IsCharBoundary-before_ascii}
use Rattle.std.specs.List.{prefix_len}
use Rattle.toml_parser.specs.Lexical.{first, is_ws, skip_ws, skip_from, skip_turn, skip_lines, line_feed, carriage_return}

-- the text is what is left of a UTF-8 text
pub record Tail (text : List ℕ) : Type 0 where
  pub front : List ℕ
  pub valid : IsUtf8 (front ++ text)

pub whole : (text : List ℕ) → IsUtf8 text → Tail text
whole text valid = record { front = []; valid = valid }

pub tail-drop : (n : ℕ) (text : List ℕ) → Tail text → Tail (drop n text)
tail-drop n text t = record { front = t.front ++ take n text; valid = rw (append_assoc, take-append-drop n text) t.valid }

pub tail-cons : (c : ℕ) (cs : List ℕ) → Tail (c ∷ cs) → Tail cs
tail-cons c cs t = record { front = t.front ++ c ∷ []; valid = rw append_assoc t.valid }

length_seam : (xs : List ℕ) (c : ℕ) (cs : List ℕ) → length xs < length (xs ++ c ∷ cs)
length_seam [] c cs = omega arith
length_seam (x ∷ xs) c cs = omega (arith, length_seam xs c cs)

at_seam : (xs : List ℕ) (c : ℕ) (cs : List ℕ) → get_or (xs ++ c ∷ cs) (length xs) 0 ≡ c
at_seam [] c cs = refl
at_seam (x ∷ xs) c cs = at_seam xs c cs

behind_seam : (xs : List ℕ) (c : ℕ) (cs : List ℕ) → drop (length xs + 1) (xs ++ c ∷ cs) ≡ cs
behind_seam [] c cs = refl
behind_seam (x ∷ xs) c cs = let one : suc (length xs) + 1 ≡ suc (length xs + 1) = omega arith in rw one (behind_seam xs c cs)

-- before an ASCII byte, and behind it
pub utf8_before : (xs : List ℕ) (c : ℕ) (cs : List ℕ) → c < 128 → IsUtf8 (xs ++ c ∷ cs) → IsUtf8 xs
utf8_before xs c cs ascii valid =
    let low : get_or (xs ++ c ∷ cs) (length xs) 0 < 128 = rw (at_seam xs c cs) ascii in
    let front = IsUtf8-take (xs ++ c ∷ cs) (length xs) valid (IsCharBoundary-before_ascii (xs ++ c ∷ cs) (length xs) (length_seam xs c cs) low) in
    subst IsUtf8 (take-append_seam xs (c ∷ cs)) front

pub utf8_behind : (xs : List ℕ) (c : ℕ) (cs : List ℕ) → c < 128 → IsUtf8 (xs ++ c ∷ cs) → IsUtf8 cs
utf8_behind xs c cs ascii valid =
    let low : get_or (xs ++ c ∷ cs) (length xs) 0 < 128 = rw (at_seam xs c cs) ascii in
    let rest = IsUtf8-drop (xs ++ c ∷ cs) (length xs + 1) valid (IsCharBoundary-after_ascii (xs ++ c ∷ cs) (length xs) valid (length_seam xs c cs) low) in
    subst IsUtf8 (behind_seam xs c cs) rest

-- ---- what stands between tokens

pub tail-skip_ws : (text : List ℕ) → Tail text → Tail (skip_ws text)
unfolding skip_ws
tail-skip_ws text t = tail-drop _ text t

skip_by : (b : Bool) (c : ℕ) (cs more : List ℕ) → Tail (c ∷ cs) → Tail more → Tail (cond b more (c ∷ cs))
skip_by true c cs more t rest = rest
skip_by false c cs more t rest = t

pub tail-skip_from : (comments inside : Bool) (text : List ℕ) → Tail text → Tail (skip_from comments inside text)
unfolding skip_from
tail-skip_from comments inside [] t = t
tail-skip_from comments inside (c ∷ cs) t =
    skip_by (is_some (skip_turn comments inside c (first cs))) c cs _ t (tail-skip_from comments (unwrap_or (skip_turn comments inside c (first cs)) false) cs (tail-cons c cs t))

-- behind bytes that are ASCII
run_by : (b : Bool) (p : ℕ → Bool) (c : ℕ) (cs : List ℕ) → p c ≡ b → ((x : ℕ) → p x ≡ true → x < 128) → IsUtf8 (c ∷ cs) → (IsUtf8 cs → IsUtf8 (drop (prefix_len p cs) cs)) → IsUtf8 (drop (prefix_len p (c ∷ cs)) (c ∷ cs))
run_by true p c cs at ascii valid more = let one : 1 + prefix_len p cs ≡ suc (prefix_len p cs) = omega arith in rw (at, one) (more (utf8_behind [] c cs (ascii c at) valid))
run_by false p c cs at ascii valid more = rw at valid

utf8-run : (p : ℕ → Bool) (text : List ℕ) → ((c : ℕ) → p c ≡ true → c < 128) → IsUtf8 text → IsUtf8 (drop (prefix_len p text) text)
utf8-run p [] ascii valid = valid
utf8-run p (c ∷ cs) ascii valid = run_by (p c) p c cs refl ascii valid (utf8-run p cs ascii)

pub utf8-skip_ws : (text : List ℕ) → IsUtf8 text → IsUtf8 (skip_ws text)
unfolding skip_ws
utf8-skip_ws text valid = utf8-run is_ws text (λ c ws. grind (arith, nat_tests)) valid

-- the turns of a run of white space and newlines
turn_by : (a b : Bool) (c : ℕ) (cs : List ℕ) (more : Bool → List ℕ) → (a ≡ true → c < 128) → (b ≡ true → c < 128) → (IsUtf8 cs → IsUtf8 (more false)) → IsUtf8 (c ∷ cs)
    → IsUtf8 (cond (is_some (cond a (Some false) (cond b (Some false) None))) (more (unwrap_or (cond a (Some false) (cond b (Some false) None)) false)) (c ∷ cs))
turn_by true b c cs more first second rest valid = rest (utf8_behind [] c cs (first refl) valid)
turn_by false true c cs more first second rest valid = rest (utf8_behind [] c cs (second refl) valid)
turn_by false false c cs more first second rest valid = valid

newline_ascii : (c next : ℕ) → (c == line_feed || (c == carriage_return && next == line_feed)) ≡ true → c < 128
newline_ascii c next h = grind (arith, nat_tests)

ws_ascii : (c : ℕ) → is_ws c ≡ true → c < 128
ws_ascii c h = grind (arith, nat_tests)

pub utf8-skip_lines : (text : List ℕ) → IsUtf8 text → IsUtf8 (skip_lines text)
unfolding skip_from
utf8-skip_lines [] valid = valid
utf8-skip_lines (c ∷ cs) valid =
    turn_by (c == line_feed || (c == carriage_return && first cs == line_feed)) (is_ws c) c cs (λ inside. skip_from false inside cs) (newline_ascii c (first cs)) (ws_ascii c) (utf8-skip_lines cs) valid
