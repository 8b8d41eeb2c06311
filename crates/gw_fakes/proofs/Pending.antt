-- A part of the places of a disk that says where a write is pending, and none around it.
use Rattle.std.proofs.Common.{◌≡◌, ℕ, zero, suc, Bool, true, false, ◌+◌, ◌-◌, ◌≤◌, List, [], ◌∷◌, ◌++◌, length, take, drop, refl, sym, ap, ◌∙◌, subst, arith, append_assoc, length-append}
use Rattle.std.proofs.lemmas.List.{append-nil, take_at, drop_at, length-replicate, replicate-append-replicate}
use Rattle.std.specs.Prelude.{IsTrue}
use Rattle.gw_fakes.specs.Disks.{is_still, marked, none_pending, pending_from}
use Rattle.gw_fakes.proofs.Settling.{none_still}
use Rattle.gw_fakes.proofs.Tearing.{mark, marked_is, length-mark}

-- a mark behind places of which none has a pending write
mark_behind : (low i c : ℕ) (pending : List Bool) → mark (low + i) c (none_pending low ++ pending) ≡ none_pending low ++ mark i c pending
mark_behind zero i c pending = let e : zero + i ≡ i = omega arith in rw e refl
mark_behind (suc low) i c pending = let e : suc low + i ≡ suc (low + i) = omega arith in rw e (ap (λ l. false ∷ l) (mark_behind low i c pending))

-- a mark that begins in a part, or at its end: the part grows as far as the mark reaches
mark_within : (i c : ℕ) (part : List Bool) (k : ℕ) → i ≤ length part → mark i c (part ++ none_pending k) ≡ mark i c part ++ none_pending (k - (length (mark i c part) - length part))
mark_within zero zero part k le = let e : k - (length part - length part) ≡ k = omega arith in rw e refl
mark_within zero (suc c) [] zero le =
    let e : zero - (suc (length (mark zero c [])) - zero) ≡ zero = omega arith in
    rw e (sym (append-nil (true ∷ mark zero c [])))
mark_within zero (suc c) [] (suc k) le =
    let e : suc k - (suc (length (mark zero c [])) - zero) ≡ k - (length (mark zero c []) - zero) = omega arith in
    rw e (ap (λ l. true ∷ l) (mark_within zero c [] k (omega arith)))
mark_within zero (suc c) (p ∷ part) k le =
    let e : k - (suc (length (mark zero c part)) - suc (length part)) ≡ k - (length (mark zero c part) - length part) = omega arith in
    rw e (ap (λ l. true ∷ l) (mark_within zero c part k (omega arith)))
mark_within (suc i) c [] k le = absurd (omega (arith, le))
mark_within (suc i) c (p ∷ part) k le =
    let e : k - (suc (length (mark i c part)) - suc (length part)) ≡ k - (length (mark i c part) - length part) = omega arith in
    rw e (ap (λ l. p ∷ l) (mark_within i c part k (omega (arith, le))))

none_more : (j k : ℕ) → j ≤ k → none_pending k ≡ none_pending j ++ none_pending (k - j)
none_more j k le = let e : k ≡ j + (k - j) = omega arith in ap none_pending e ∙ sym (replicate-append-replicate j (k - j) false)

pub length-from : (low : ℕ) (part : List Bool) (n : ℕ) → length (pending_from low part n) ≡ low + (length part + (n - (low + length part)))
length-from low part n =
    let k = n - (low + length part) in
    omega (arith, length-append (none_pending low) (part ++ none_pending k), length-append part (none_pending k), length-replicate low false, length-replicate k false)

-- a mark in what the part says, which is filled up to its beginning
pub marked_from : (low at c n : ℕ) (part : List Bool) → low ≤ n → low ≤ at → at ≤ length (pending_from low part n)
    → pending_from low (marked (at - low) c (part ++ none_pending (at - low - length part))) n ≡ marked at c (pending_from low part n)
marked_from low at c n part within before there =
    let i = at - low in
    let j = i - length part in
    let k = n - (low + length part) in
    let filled = part ++ none_pending j in
    let long : length filled ≡ length part + j = omega (arith, length-append part (none_pending j), length-replicate j false) in
    let some : i ≤ length filled = omega (arith, long) in
    let fits : j ≤ k = omega (arith, there, length-from low part n) in
    let place : low + i ≡ at = omega (arith, before) in
    let grown = length-mark i c filled some in
    let count : k - j - (length (mark i c filled) - length filled) ≡ n - (low + length (mark i c filled)) = omega (arith, long, grown) in
    let cut : part ++ none_pending k ≡ filled ++ none_pending (k - j) = ap (λ l. part ++ l) (none_more j k fits) ∙ sym (append_assoc part (none_pending j) (none_pending (k - j))) in
    let same : marked i c filled ≡ mark i c filled = marked_is i c filled some in
    ap (λ l. pending_from low l n) same
    ∙ sym (marked_is at c (pending_from low part n) there
    ∙ ap (λ m. mark m c (pending_from low part n)) (sym place)
    ∙ mark_behind low i c (part ++ none_pending k)
    ∙ ap (λ l. none_pending low ++ mark i c l) cut
    ∙ ap (λ l. none_pending low ++ l) (mark_within i c filled (k - j) some)
    ∙ ap (λ m. none_pending low ++ (mark i c filled ++ none_pending m)) count)

-- the part may begin before
pub opened_from : (low at n : ℕ) (part : List Bool) → at ≤ low → pending_from at (none_pending (low - at) ++ part) n ≡ pending_from low part n
opened_from low at n part before =
    let gap = low - at in
    let k = n - (low + length part) in
    let count : n - (at + length (none_pending gap ++ part)) ≡ k = omega (arith, length-append (none_pending gap) part, length-replicate gap false, before) in
    let whole : at + gap ≡ low = omega (arith, before) in
    ap (λ m. none_pending at ++ ((none_pending gap ++ part) ++ none_pending m)) count
    ∙ ap (λ l. none_pending at ++ l) (append_assoc (none_pending gap) part (none_pending k))
    ∙ sym (append_assoc (none_pending at) (none_pending gap) (part ++ none_pending k))
    ∙ ap (λ l. l ++ (part ++ none_pending k)) (replicate-append-replicate at gap false ∙ ap none_pending whole)

-- a part that is empty says nothing
pub nothing_from : (low n : ℕ) (part : List Bool) → length part ≡ 0 → low ≤ n → pending_from low part n ≡ none_pending n
nothing_from low n [] is within = let e : low + (n - (low + 0)) ≡ n = omega (arith, within) in replicate-append-replicate low (n - (low + 0)) false ∙ ap none_pending e
nothing_from low n (p ∷ part) is within = absurd (omega (arith, is))

-- no write is pending before the part, nor behind it
pub still_before : (low : ℕ) (part : List Bool) (n : ℕ) → IsTrue (is_still (take low (pending_from low part n)))
still_before low part n =
    subst (λ l. IsTrue (is_still l)) (sym (take_at (none_pending low) (part ++ none_pending (n - (low + length part))) low (length-replicate low false))) (none_still low)

pub still_past : (low : ℕ) (part : List Bool) (n : ℕ) → IsTrue (is_still (drop (low + length part) (pending_from low part n)))
still_past low part n =
    let k = n - (low + length part) in
    let long : length (none_pending low ++ part) ≡ low + length part = omega (arith, length-append (none_pending low) part, length-replicate low false) in
    subst (λ l. IsTrue (is_still l))
    (sym (ap (drop (low + length part)) (sym (append_assoc (none_pending low) part (none_pending k))) ∙ drop_at (none_pending low ++ part) (none_pending k) (low + length part) long))
    (none_still k)
