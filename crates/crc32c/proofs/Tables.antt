-- A table's entries, looked at one after another.
use Rattle.std.proofs.Common.{◌≡◌, ℕ, zero, suc, ◌+◌, ◌*◌, ◌<◌, Bool, true, false, nat_eq, ◌&&◌, List, [], ◌∷◌, length, drop, get_or, refl, sym, ap, ◌∙◌, arith}
use Rattle.std.proofs.lemmas.Bool.{eqb-true}
use Rattle.crc32c.specs.Sums.{stepped, eight_steps}
use Rattle.crc32c.specs.Tables.{steps_on}
use Rattle.crc32c.specs.declared.table.TheConstants.{TABLE}

both : (a b : Bool) → (a && b) ≡ true → (a ≡ true) × (b ≡ true)
both true b e = (refl, e)
both false b e = absurd (cc (e))

-- so many entries are what eight steps make of the places from a first one on
abbrev begins : ℕ → ℕ → List ℕ → Bool
begins zero first xs = true
begins (suc n) first [] = true
begins (suc n) first (x ∷ xs) = nat_eq x (eight_steps first) && begins n (first + 1) xs

begun : (n : ℕ) (xs : List ℕ) (first i : ℕ) → begins n first xs ≡ true → i < n → i < length xs → get_or xs i 0 ≡ eight_steps (first + i)
begun zero xs first i e within short = absurd (omega arith)
begun (suc n) [] first i e within short = absurd (omega arith)
begun (suc n) (x ∷ xs) first zero e within short =
    let here : x ≡ eight_steps first = eqb-true x (eight_steps first) (both (nat_eq x (eight_steps first)) (begins n (first + 1) xs) e).0 in
    let at : first ≡ first + 0 = omega arith in
    here ∙ ap eight_steps at
begun (suc n) (x ∷ xs) first (suc i) e within short =
    let at : first + 1 + i ≡ first + suc i = omega arith in
    begun n xs (first + 1) i (both (nat_eq x (eight_steps first)) (begins n (first + 1) xs) e).1 (omega arith) (omega arith) ∙ ap eight_steps at

-- the entries of one list are what eight steps make of those of another
abbrev follows : List ℕ → List ℕ → Bool
follows xs [] = true
follows [] (y ∷ ys) = false
follows (x ∷ xs) (y ∷ ys) = nat_eq y (eight_steps x) && follows xs ys

followed : (xs ys : List ℕ) (i : ℕ) → follows xs ys ≡ true → i < length ys → get_or ys i 0 ≡ eight_steps (get_or xs i 0)
followed xs [] i e within = absurd (omega arith)
followed [] (y ∷ ys) i e within = absurd (cc (e))
followed (x ∷ xs) (y ∷ ys) zero e within = eqb-true y (eight_steps x) (both (nat_eq y (eight_steps x)) (follows xs ys) e).0
followed (x ∷ xs) (y ∷ ys) (suc i) e within = followed xs ys i (both (nat_eq y (eight_steps x)) (follows xs ys) e).1 (omega arith)

further : (n i : ℕ) (xs : List ℕ) → get_or (drop n xs) i 0 ≡ get_or xs (n + i) 0
further zero i xs =
    let at : i ≡ 0 + i = omega arith in ap (λ (k : ℕ). get_or xs k 0) at
further (suc n) i [] = refl
further (suc n) i (x ∷ xs) =
    let at : suc (n + i) ≡ suc n + i = omega arith in further n i xs ∙ ap (λ (k : ℕ). get_or (x ∷ xs) k 0) at

table_begins : begins 256 0 TABLE ≡ true
unfolding stepped eight_steps
table_begins = refl

table_follows : follows TABLE (drop 256 TABLE) ≡ true
unfolding stepped eight_steps
table_follows = refl

table_left : length (drop 256 TABLE) ≡ 1792
table_left = refl

pub table_entry : (k i : ℕ) → k < 8 → i < 256 → get_or TABLE (256 * k + i) 0 ≡ steps_on (k + 1) i
table_entry zero i within small =
    let at : 256 * 0 + i ≡ i = omega arith in
    let from : 0 + i ≡ i = omega arith in
    ap (λ (n : ℕ). get_or TABLE n 0) at ∙ begun 256 TABLE 0 i table_begins small (omega (arith, table_left)) ∙ ap eight_steps from
table_entry (suc k) i within small =
    let at : 256 * suc k + i ≡ 256 + (256 * k + i) = omega arith in
    let more : suc (k + 1) ≡ suc k + 1 = omega arith in
    ap (λ (n : ℕ). get_or TABLE n 0) at ∙ sym (further 256 (256 * k + i) TABLE) ∙ followed TABLE (drop 256 TABLE) (256 * k + i) table_follows (omega (arith, table_left))
    ∙ ap eight_steps (table_entry k i (omega arith) small) ∙ ap (λ (n : ℕ). steps_on n i) more
