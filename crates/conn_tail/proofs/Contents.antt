-- A piece of a content, and the content cut at a line.
use Rattle.std.proofs.Common.{◌≡◌, ℕ, zero, suc, ◌+◌, ◌-◌, ◌<◌, ◌≤◌, min, List, [], ◌∷◌, ◌++◌, length, get_or, take, drop, refl, ap, sym, subst, ◌∙◌, arith}
use Rattle.std.specs.List.{slice_range}
use Rattle.std.proofs.lemmas.List.{get_or-take, get_or-drop, take_more, length-take, length-drop}
use Rattle.std.proofs.Math.Seq.{take-add}
use Rattle.gw_outside.specs.Disk.{ReadsAt}
use Rattle.gw_lines.specs.Lines.{IsFeedless}
use Rattle.conn_tail.specs.Places.{StandsAt}

-- what a read gave stands in the content from its place on
pub stands : (content piece : List ℕ) (at n : ℕ) → ReadsAt content at piece n → StandsAt content piece at n
stands content piece at n r = record {
  each = λ k l. sym (get_or-take n piece k 0 l) ∙ ap (λ (xs : List ℕ). get_or xs k 0) r.front ∙ get_or-take n (drop at content) k 0 l ∙ get_or-drop at content k 0;
}

pub nothing_stands : (content piece : List ℕ) → StandsAt content piece 0 0
nothing_stands content piece = record { each = λ k l. absurd (omega arith) }

-- a read of a whole piece that ends behind a place of the content has that place
pub reaches : (content piece : List ℕ) (at n place : ℕ) → ReadsAt content at piece n → length piece ≡ 65536 → at ≡ (place + 1) - 65536 → place < length content → place < at + n
reaches content piece at n place r size is within =
    let count : n ≡ min 65536 (length content - at) = r.count ∙ ap (λ (m : ℕ). min m (length content - at)) size in
    numbers n (length content) at place count is within
  where
    numbers : (n all at place : ℕ) → n ≡ min 65536 (all - at) → at ≡ (place + 1) - 65536 → place < all → place < at + n
    numbers n all at place count is within = omega arith

-- what stands in both at the same distance is the same part of both
same_part : (xs ys : List ℕ) (a b n : ℕ) → a + n ≤ length xs → b + n ≤ length ys → ((k : ℕ) → k < n → get_or xs (a + k) 0 ≡ get_or ys (b + k) 0) → take n (drop a xs) ≡ take n (drop b ys)
same_part xs ys a b zero most_xs most_ys same = refl
same_part xs ys a b (suc n) most_xs most_ys same =
    let more : suc n ≡ n + 1 = omega arith in
    let fits_xs : n < length (drop a xs) = omega (arith, most_xs, length-drop a xs) in
    let fits_ys : n < length (drop b ys) = omega (arith, most_ys, length-drop b ys) in
    let last : get_or (drop a xs) n 0 ≡ get_or (drop b ys) n 0 = get_or-drop a xs n 0 ∙ same n (omega arith) ∙ sym (get_or-drop b ys n 0) in
    ap (λ (m : ℕ). take m (drop a xs)) more ∙ take_more (drop a xs) n 0 fits_xs
    ∙ ap (λ (bs : List ℕ). bs ++ get_or (drop a xs) n 0 ∷ []) (same_part xs ys a b n (omega (arith, most_xs)) (omega (arith, most_ys)) (λ k l. same k (omega (arith, l))))
    ∙ ap (λ (c : ℕ). take n (drop b ys) ++ c ∷ []) last ∙ sym (take_more (drop b ys) n 0 fits_ys) ∙ ap (λ (m : ℕ). take m (drop b ys)) (sym more)

-- a line that stands in the piece
pub line_stands : (content piece : List ℕ) (at size start end : ℕ) → StandsAt content piece at size → at ≤ start → start ≤ end → end < at + size → end ≤ length content → size ≤ length piece
    → slice_range piece (start - at) (end - at) ≡ slice_range content start end
line_stands content piece at size start end s before order behind within most =
    let long : end - at - (start - at) ≡ end - start = omega (arith, before, order) in
    ap (λ (n : ℕ). take n (drop (start - at) piece)) long
    ∙ same_part piece content (start - at) start (end - start) (omega (arith, before, order, behind, most)) (omega (arith, order, within)) each
  where
    each : (k : ℕ) → k < end - start → get_or piece (start - at + k) 0 ≡ get_or content (start + k) 0
    each k l =
        let there : at + (start - at + k) ≡ start + k = omega (arith, before) in
        s.each (start - at + k) (omega (arith, before, order, behind, l)) ∙ ap (λ (i : ℕ). get_or content i 0) there

-- a content up to a line's end is the content up to its start, the line, and its line feed
pub at_line : (content : List ℕ) (start end : ℕ) → start ≤ end → end < length content → get_or content end 0 ≡ 10 → take (end + 1) content ≡ take start content ++ slice_range content start end ++ 10 ∷ []
at_line content start end order within feed =
    let size : start + (end - start) ≡ end = omega arith in
    take_more content end 0 within ∙ ap (λ (b : ℕ). take end content ++ b ∷ []) feed
    ∙ ap (λ (bs : List ℕ). bs ++ 10 ∷ []) (ap (λ (n : ℕ). take n content) (sym size) ∙ take-add start (end - start) content)

-- no byte of a line between two places is a line feed
pub range_feedless : (content : List ℕ) (start end : ℕ) → ((k : ℕ) → start ≤ k → k < end → get_or content k 0 ≡ 10 → ⊥) → IsFeedless (slice_range content start end)
range_feedless content start end none k l e =
    let few : k < end - start = below k (end - start) (length (drop start content)) (subst (λ (n : ℕ). k < n) (length-take (end - start) (drop start content)) l) in
    none (start + k) (omega arith) (omega arith) (sym (get_or-drop start content k 0) ∙ sym (get_or-take (end - start) (drop start content) k 0 few) ∙ e)
  where
    below : (k n m : ℕ) → k < min n m → k < n
    below k n m l = omega arith
