-- What a sync copies: outside of the pending places, what is read is what was synced.
use Rattle.std.proofs.Common.{◌≡◌, ℕ, zero, suc, Bool, true, false, ◌+◌, ◌≤◌, min, List, [], ◌∷◌, ◌++◌, length, get_or, set, take, drop, refl, sym, ap, ◌∙◌, subst, arith, append_assoc, length-take, length-drop, take-append-drop}
use Rattle.std.proofs.lemmas.Bool.{and_parts, and_from, leb-true, le-leb, false≢true, eqb-true, eq-eqb}
use Rattle.std.proofs.lemmas.List.{take-take, drop-drop, take_more, drop_more, set_at}
use Rattle.std.specs.Prelude.{◌==◌, ◌||◌, ◌-◌, ◌<◌, not, IsTrue, if◌then◌else◌}
use Rattle.gw_fakes.specs.Disks.{is_left, is_still, none_pending, spoiled}
use Rattle.gw_outside.specs.Disk.{written}

as_synced : (p : Bool) (s b : ℕ) → not p ≡ true → (p || (b == s)) ≡ true → b ≡ s
as_synced false s b still same = eqb-true b s same
as_synced true s b still same = absurd (false≢true still)

-- below the pending places
pub same_below : (synced : List ℕ) (pending : List Bool) (content : List ℕ) (low : ℕ) → IsTrue (is_left synced pending content) → IsTrue (is_still (take low pending)) → low ≤ length synced → take low content ≡ take low synced
same_below synced pending content zero left still le = refl
same_below [] pending content (suc low) left still le = absurd (omega arith)
same_below (s ∷ ss) [] content (suc low) left still le = absurd (false≢true left)
same_below (s ∷ ss) (p ∷ ps) [] (suc low) left still le = absurd (false≢true left)
same_below (s ∷ ss) (p ∷ ps) (b ∷ bs) (suc low) left still le =
    let parts = and_parts (p || (b == s)) (is_left ss ps bs) left in
    let calm = and_parts (not p) (is_still (take low ps)) still in
    λ i. as_synced p s b calm.0 parts.0 i ∷ same_below ss ps bs low parts.1 calm.1 (omega arith) i

-- where nothing is pending, up to what grew
all_same : (synced : List ℕ) (pending : List Bool) (content : List ℕ) → IsTrue (is_left synced pending content) → IsTrue (is_still pending) → content ≡ synced ++ drop (length synced) content
all_same [] pending content left still = refl
all_same (s ∷ ss) [] content left still = absurd (false≢true left)
all_same (s ∷ ss) (p ∷ ps) [] left still = absurd (false≢true left)
all_same (s ∷ ss) (p ∷ ps) (b ∷ bs) left still =
    let parts = and_parts (p || (b == s)) (is_left ss ps bs) left in
    let calm = and_parts (not p) (is_still ps) still in
    λ i. as_synced p s b calm.0 parts.0 i ∷ all_same ss ps bs parts.1 calm.1 i

-- past the pending places
pub same_above : (synced : List ℕ) (pending : List Bool) (content : List ℕ) (high : ℕ) → IsTrue (is_left synced pending content) → IsTrue (is_still (drop high pending))
    → drop (min high (length synced)) content ≡ drop (min high (length synced)) synced ++ drop (length synced) content
same_above [] pending content high left still = let e : min high 0 ≡ 0 = omega arith in rw e refl
same_above (s ∷ ss) pending content zero left still =
    let e : min zero (suc (length ss)) ≡ zero = omega arith in
    rw e (all_same (s ∷ ss) pending content left still)
same_above (s ∷ ss) [] content (suc high) left still = absurd (false≢true left)
same_above (s ∷ ss) (p ∷ ps) [] (suc high) left still = absurd (false≢true left)
same_above (s ∷ ss) (p ∷ ps) (b ∷ bs) (suc high) left still =
    let parts = and_parts (p || (b == s)) (is_left ss ps bs) left in
    let e : min (suc high) (suc (length ss)) ≡ suc (min high (length ss)) = omega arith in
    rw e (same_above ss ps bs high parts.1 still)

pub none_still : (n : ℕ) → IsTrue (is_still (none_pending n))
none_still zero = refl
none_still (suc n) = none_still n

pub still_take : (n : ℕ) (pending : List Bool) → IsTrue (is_still pending) → IsTrue (is_still (take n pending))
still_take zero pending still = refl
still_take (suc n) [] still = refl
still_take (suc n) (p ∷ ps) still = let calm = and_parts (not p) (is_still ps) still in and_from _ _ calm.0 (still_take n ps calm.1)

-- what is left of a disk with nothing pending is its content
pub only_synced : (synced image : List ℕ) → IsTrue (is_left synced (none_pending (length synced)) image) → image ≡ synced
only_synced [] [] left = refl
only_synced [] (b ∷ bs) left = absurd (omega (arith, leb-true _ _ left))
only_synced (s ∷ ss) [] left = absurd (false≢true left)
only_synced (s ∷ ss) (b ∷ bs) left =
    let parts = and_parts (b == s) (is_left ss (none_pending (length ss)) bs) left in
    λ i. eqb-true b s parts.0 i ∷ only_synced ss bs parts.1 i

pub synced_left : (synced : List ℕ) (pending : List Bool) → length synced ≤ length pending → IsTrue (is_left synced pending synced)
synced_left [] pending le = le-leb 0 (length pending) (omega arith)
synced_left (s ∷ ss) [] le = absurd (omega arith)
synced_left (s ∷ ss) (false ∷ ps) le = and_from _ _ (eq-eqb s s refl) (synced_left ss ps (omega arith))
synced_left (s ∷ ss) (true ∷ ps) le = synced_left ss ps (omega arith)

-- the synced content with what was pending copied over it, and what grew behind it
pub settled : (content synced : List ℕ) (low high : ℕ) → length synced ≤ length content
    → take (min low (length synced)) content ≡ take (min low (length synced)) synced
    → drop (min high (length synced)) content ≡ drop (min high (length synced)) synced ++ drop (length synced) content
    → (start end : ℕ) → end ≡ min high (length synced) → start ≡ min low end
    → written start (take (end - start) (drop start content)) synced ++ drop (length synced) content ≡ content
settled content synced low high grown below above start end end_is start_is =
    let changed = take (end - start) (drop start content) in
    let count : length changed ≡ end - start = omega (arith, length-take (end - start) (drop start content), length-drop start content, grown, end_is, start_is) in
    let reach : start + length changed ≡ end = omega (arith, count, start_is) in
    let fits : start ≤ min low (length synced) = omega (arith, end_is, start_is) in
    let front : take start synced ≡ take start content = sym (take-take start (min low (length synced)) synced fits) ∙ ap (take start) (sym below) ∙ take-take start (min low (length synced)) content fits in
    let back : drop end synced ++ drop (length synced) content ≡ drop end content = sym (subst (λ n. drop n content ≡ drop n synced ++ drop (length synced) content) (sym end_is) above) in
    let whole : start + (end - start) ≡ end = omega (arith, start_is) in
    let middle : changed ++ drop end content ≡ drop start content =
    ap (λ l. changed ++ l) (ap (λ n. drop n content) (sym whole) ∙ sym (drop-drop (end - start) start content)) ∙ take-append-drop (end - start) (drop start content) in
    ap (λ n. (take start synced ++ changed ++ drop n synced) ++ drop (length synced) content) reach
    ∙ append_assoc (take start synced ++ changed) (drop end synced) (drop (length synced) content)
    ∙ ap (λ l. (take start synced ++ changed) ++ l) back
    ∙ append_assoc (take start synced) changed (drop end content)
    ∙ ap (λ l. take start synced ++ l) middle
    ∙ ap (λ l. l ++ drop start content) front
    ∙ take-append-drop start content

-- noise, place by place
pub spoiled_at : (bytes : List ℕ) (pending : List Bool) (place : ℕ) (is_pending : Bool) → length bytes ≤ length pending → place < length bytes → is_pending ≡ get_or pending place is_pending
    → get_or (spoiled bytes pending) place 0 ≡ (if is_pending then 165 else get_or bytes place 0)
spoiled_at [] pending place is_pending le lt is = absurd (omega arith)
spoiled_at (b ∷ bs) [] place is_pending le lt is = absurd (omega arith)
spoiled_at (b ∷ bs) (p ∷ ps) zero is_pending le lt is = ap (λ p. if p then 165 else b) (sym is)
spoiled_at (b ∷ bs) (p ∷ ps) (suc place) is_pending le lt is = spoiled_at bs ps place is_pending (omega arith) (omega arith) is

pub length-spoiled : (bytes : List ℕ) (pending : List Bool) → length (spoiled bytes pending) ≡ length bytes
length-spoiled [] pending = refl
length-spoiled (b ∷ bs) [] = refl
length-spoiled (b ∷ bs) (p ∷ ps) = ap suc (length-spoiled bs ps)

-- one place more of a list that goes over into another
pub goes_over : (old new : List ℕ) (place byte : ℕ) → length new ≡ length old → place < length old → byte ≡ get_or new place 0
    → set (take place new ++ drop place old) place byte ≡ take (place + 1) new ++ drop (place + 1) old
goes_over old new place byte same lt is =
    ap (λ l. set (take place new ++ l) place byte) (drop_more old place 0 lt)
    ∙ set_at (take place new) (get_or old place 0) (drop (place + 1) old) byte place (omega (arith, length-take place new, same, lt))
    ∙ ap (λ b. take place new ++ b ∷ drop (place + 1) old) is
    ∙ sym (ap (λ l. l ++ drop (place + 1) old) (take_more new place 0 (omega (arith, same, lt))) ∙ append_assoc (take place new) (get_or new place 0 ∷ []) (drop (place + 1) old))

pub stays_over : (old new : List ℕ) (place : ℕ) → length new ≡ length old → place < length old → get_or old place 0 ≡ get_or new place 0
    → take place new ++ drop place old ≡ take (place + 1) new ++ drop (place + 1) old
stays_over old new place same lt is =
    ap (λ l. take place new ++ l) (drop_more old place 0 lt)
    ∙ ap (λ b. take place new ++ b ∷ drop (place + 1) old) is
    ∙ sym (ap (λ l. l ++ drop (place + 1) old) (take_more new place 0 (omega (arith, same, lt))) ∙ append_assoc (take place new) (get_or new place 0 ∷ []) (drop (place + 1) old))

-- what is read and what was synced, below the pending places
pub same_below_both : (synced : List ℕ) (pending : List Bool) (content : List ℕ) (low : ℕ) → IsTrue (is_left synced pending content) → IsTrue (is_still (take low pending))
    → take (min low (length synced)) content ≡ take (min low (length synced)) synced
same_below_both synced pending content low left still =
    let within = min low (length synced) in
    same_below synced pending content within left
    (subst (λ l. IsTrue (is_still l)) (take-take within low pending (omega arith)) (still_take within (take low pending) still)) (omega arith)
