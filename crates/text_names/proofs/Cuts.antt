-- A text cut at a byte, byte by byte.
use Rattle.std.proofs.Common.{◌≡◌, ℕ, ◌<◌, ◌==◌, Bool, true, false, List, [], ◌∷◌, ◌++◌, length, refl, ap, subst, arith}
use Rattle.std.specs.Prelude.{Option, Some, None, if◌then◌else◌}
use Rattle.std.specs.Option.{option_map}
use Rattle.text_words.specs.Lines.{in_first}
use Rattle.text_names.specs.Bare.{cut_at, behind_one}
use Rattle.text_names.specs.Values.{parts_at}

-- what stands before a text stands in front of what it is cut into
abbrev pub with_front : List ℕ → List ℕ × List ℕ → List ℕ × List ℕ
with_front front p = (front ++ p.0, p.1)

-- ---- the parts of a text

parts_by : (byte b : ℕ) (bs : List ℕ) (p : List ℕ × List ℕ) (t : Bool) (r : Option (List ℕ × List ℕ))
    → (if t then Some ([], bs) else option_map (behind_one b) r) ≡ Some p → ((q : List ℕ × List ℕ) → r ≡ Some q → parts_at byte bs ≡ q.0 ∷ parts_at byte q.1)
    → (if t then [] ∷ parts_at byte bs else in_first b (parts_at byte bs)) ≡ p.0 ∷ parts_at byte p.1
parts_by byte b bs p true r e before =
    let same : ([], bs) ≡ p = cc in subst (λ (q : List ℕ × List ℕ). [] ∷ parts_at byte bs ≡ q.0 ∷ parts_at byte q.1) same refl
parts_by byte b bs p false None e before = absurd (cc)
parts_by byte b bs p false (Some q) e before =
    let same : (b ∷ q.0, q.1) ≡ p = cc in
    subst (λ (r : List ℕ × List ℕ). in_first b (parts_at byte bs) ≡ r.0 ∷ parts_at byte r.1) same (ap (in_first b) (before q refl))

pub cut_parts : (byte : ℕ) (text : List ℕ) (p : List ℕ × List ℕ) → cut_at byte text ≡ Some p → parts_at byte text ≡ p.0 ∷ parts_at byte p.1
cut_parts byte [] p e = absurd (cc)
cut_parts byte (b ∷ bs) p e = parts_by byte b bs p (b == byte) (cut_at byte bs) e (cut_parts byte bs)

whole_by : (byte b : ℕ) (bs : List ℕ) (t : Bool) (r : Option (List ℕ × List ℕ))
    → (if t then Some ([], bs) else option_map (behind_one b) r) ≡ None → (r ≡ None → parts_at byte bs ≡ bs ∷ [])
    → (if t then [] ∷ parts_at byte bs else in_first b (parts_at byte bs)) ≡ (b ∷ bs) ∷ []
whole_by byte b bs true r e before = absurd (cc)
whole_by byte b bs false (Some q) e before = absurd (cc)
whole_by byte b bs false None e before = ap (in_first b) (before refl)

pub uncut_parts : (byte : ℕ) (text : List ℕ) → cut_at byte text ≡ None → parts_at byte text ≡ text ∷ []
uncut_parts byte [] e = refl
uncut_parts byte (b ∷ bs) e = whole_by byte b bs (b == byte) (cut_at byte bs) e (uncut_parts byte bs)

-- ---- what stands behind the byte is shorter

shorter_by : (b : ℕ) (bs : List ℕ) (p : List ℕ × List ℕ) (t : Bool) (r : Option (List ℕ × List ℕ))
    → (if t then Some ([], bs) else option_map (behind_one b) r) ≡ Some p → ((q : List ℕ × List ℕ) → r ≡ Some q → length q.1 < length bs) → length p.1 < length (b ∷ bs)
shorter_by b bs p true r e before =
    let same : bs ≡ p.1 = ap (λ (q : List ℕ × List ℕ). q.1) (some_same ([], bs) p e) in
    let sizes : length bs ≡ length p.1 = ap length same in
    omega arith
  where
    some_same : (p q : List ℕ × List ℕ) → Some p ≡ Some q → p ≡ q
    some_same p q e = cc
shorter_by b bs p false None e before = absurd (cc)
shorter_by b bs p false (Some q) e before =
    let less : length q.1 < length bs = before q refl in
    let sizes : length q.1 ≡ length p.1 = ap (λ (r : List ℕ × List ℕ). length r.1) (some_same (b ∷ q.0, q.1) p e) in
    omega arith
  where
    some_same : (p q : List ℕ × List ℕ) → Some p ≡ Some q → p ≡ q
    some_same p q e = cc

pub cut_shorter : (byte : ℕ) (text : List ℕ) (p : List ℕ × List ℕ) → cut_at byte text ≡ Some p → length p.1 < length text
cut_shorter byte [] p e = absurd (cc)
cut_shorter byte (b ∷ bs) p e = shorter_by b bs p (b == byte) (cut_at byte bs) e (cut_shorter byte bs)
