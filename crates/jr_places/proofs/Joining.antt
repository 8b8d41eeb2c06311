-- The numbers of segments, by their places.
use Rattle.std.proofs.Common.{◌≡◌, ℕ, zero, suc, ◌+◌, ◌-◌, ◌*◌, ◌<◌, ◌≤◌, List, [], ◌∷◌, ◌++◌, length, get_or, take, sym, ◌∙◌, ap, arith, append_assoc, length-append}
use Rattle.std.proofs.lemmas.List.{append-nil, get_or_append_left, get_or-append-add, get_or-append_right}
use Rattle.std.specs.List.{flat_map}
use Rattle.jr_places.specs.Listed.{listed}
use Rattle.jr_places.specs.Segmented.{joined}
use Rattle.jr_places.specs.declared.segment.Segment.{Segment}

split : (s : Segment) (full : List Segment) (last : List ℕ) → joined (s ∷ full) last ≡ (listed s.numbers) ++ joined full last
split s full last = append_assoc (listed s.numbers) (flat_map (λ (t : Segment). (listed t.numbers)) full) last

parts : (full : List Segment) (last : List ℕ) → joined full last ≡ joined full [] ++ last
parts full last = ap (λ (ns : List ℕ). ns ++ last) (sym (append-nil (flat_map (λ (t : Segment). (listed t.numbers)) full)))

pub length-joined : (full : List Segment) (last : List ℕ) → length (joined full last) ≡ 4080 * length full + length last
length-joined [] last = omega arith
length-joined (s ∷ full) last =
    omega (arith, length-joined full last, s.whole, ap length (split s full last), length-append (listed s.numbers) (joined full last))

-- a number of a full segment
pub in_full : (full : List Segment) (last : List ℕ) (q r : ℕ) (s : Segment) → q < length full → r < 4080 → s ≡ get_or full q s → get_or (joined full last) (4080 * q + r) 0 ≡ get_or (listed s.numbers) r 0
in_full [] last q r s within small is = absurd (omega arith)
in_full (t ∷ full) last zero r s within small is =
    let here : get_or (joined (t ∷ full) last) r 0 ≡ get_or (listed t.numbers) r 0 =
    ap (λ (ns : List ℕ). get_or ns r 0) (split t full last) ∙ get_or_append_left (listed t.numbers) (joined full last) 0 r (omega (arith, t.whole)) in
    let place : 4080 * zero + r ≡ r = omega arith in
    ap (λ (n : ℕ). get_or (joined (t ∷ full) last) n 0) place ∙ here ∙ ap (λ (x : Segment). get_or (listed x.numbers) r 0) (sym is)
in_full (t ∷ full) last (suc q) r s within small is =
    let place : 4080 * suc q + r ≡ length (listed t.numbers) + (4080 * q + r) = omega (arith, t.whole) in
    ap (λ (n : ℕ). get_or (joined (t ∷ full) last) n 0) place
    ∙ ap (λ (ns : List ℕ). get_or ns (length (listed t.numbers) + (4080 * q + r)) 0) (split t full last)
    ∙ get_or-append-add (listed t.numbers) (joined full last) (4080 * q + r) 0
    ∙ in_full full last q r s (omega arith) small is

-- a number behind them
pub in_last : (full : List Segment) (last : List ℕ) (i : ℕ) → 4080 * length full ≤ i → get_or (joined full last) i 0 ≡ get_or last (i - 4080 * length full) 0
in_last full last i behind =
    let n : length (joined full []) ≡ 4080 * length full = omega (arith, length-joined full []) in
    ap (λ (ns : List ℕ). get_or ns i 0) (parts full last) ∙ get_or-append_right (joined full []) last (4080 * length full) i 0 n behind

-- the numbers of one segment more, that begins or ends
pub one_segment_more : (full : List Segment) (last : List ℕ) (s : Segment) → (listed s.numbers) ≡ last → joined (full ++ s ∷ []) [] ≡ joined full last
one_segment_more [] last s is = append-nil ((listed s.numbers) ++ []) ∙ append-nil (listed s.numbers) ∙ is
one_segment_more (t ∷ full) last s is =
    split t (full ++ s ∷ []) [] ∙ ap (λ (ns : List ℕ). (listed t.numbers) ++ ns) (one_segment_more full last s is) ∙ sym (split t full last)

-- the numbers without the last of them
pub without_last : (full : List Segment) (last : List ℕ) → 0 < length last → joined full (take (length last - 1) last) ≡ take (length (joined full last) - 1) (joined full last)
without_last full last some =
    let n : length (joined full []) ≡ 4080 * length full = omega (arith, length-joined full []) in
    let count : length (joined full last) - 1 ≡ length (joined full []) + (length last - 1) = omega (arith, length-joined full last, n) in
    parts full (take (length last - 1) last)
    ∙ sym (take_past (joined full []) last (length last - 1))
    ∙ ap (λ (k : ℕ). take k (joined full [] ++ last)) (sym count)
    ∙ ap (λ (ns : List ℕ). take (length (joined full last) - 1) ns) (sym (parts full last))
  where
    take_past : (xs ys : List ℕ) (k : ℕ) → take (length xs + k) (xs ++ ys) ≡ xs ++ take k ys
    take_past [] ys k = ap (λ (n : ℕ). take n ys) (omega arith)
    take_past (x ∷ xs) ys k =
        let step : length (x ∷ xs) + k ≡ suc (length xs + k) = omega arith in
        ap (λ (n : ℕ). take n (x ∷ (xs ++ ys))) step ∙ ap (λ (ns : List ℕ). x ∷ ns) (take_past xs ys k)
