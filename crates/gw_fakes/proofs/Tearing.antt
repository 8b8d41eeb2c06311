-- A write of which a stop may leave any part: what may be left behind it is what might have been left before, torn.
use Rattle.std.proofs.Common.{◌≡◌, inl, inr, ℕ, zero, suc, Bool, true, false, ◌+◌, ◌≤◌, max, List, [], ◌∷◌, ◌++◌, length, get_or, take, drop, refl, sym, ap, ◌∙◌, subst, arith, length-take}
use Rattle.std.proofs.lemmas.Bool.{and_parts, and_from, leb-true, le-leb, false≢true, eq-eqb, cases_lt}
use Rattle.std.proofs.lemmas.List.{take-take, drop_all, length-replicate}
use Rattle.std.specs.Prelude.{◌==◌, ◌||◌, IsTrue, replicate}
use Rattle.gw_outside.specs.Disk.{Torn}
use Rattle.gw_fakes.specs.Disks.{is_left, marked}

-- the marks of a write, place by place
abbrev pub mark : ℕ → ℕ → List Bool → List Bool
mark zero zero pending = pending
mark zero (suc n) [] = true ∷ mark zero n []
mark zero (suc n) (p ∷ pending) = true ∷ mark zero n pending
mark (suc at) n [] = []
mark (suc at) n (p ∷ pending) = p ∷ mark at n pending

mark_front : (n : ℕ) (pending : List Bool) → mark zero n pending ≡ replicate n true ++ drop n pending
mark_front zero pending = refl
mark_front (suc n) [] = ap (λ l. true ∷ l) (mark_front n [] ∙ ap (λ l. replicate n true ++ l) (drop_all n [] (omega arith)))
mark_front (suc n) (p ∷ pending) = ap (λ l. true ∷ l) (mark_front n pending)

mark_is : (at n : ℕ) (pending : List Bool) → at ≤ length pending → mark at n pending ≡ take at pending ++ replicate n true ++ drop (at + n) pending
mark_is zero n pending le = let e : zero + n ≡ n = omega arith in rw e (mark_front n pending)
mark_is (suc at) n [] le = absurd (omega arith)
mark_is (suc at) n (p ∷ pending) le = let e : suc at + n ≡ suc (at + n) = omega arith in rw e (ap (λ l. p ∷ l) (mark_is at n pending (omega arith)))

pub marked_is : (at n : ℕ) (pending : List Bool) → at ≤ length pending → marked at n pending ≡ mark at n pending
marked_is at n pending le = let e : length (replicate n true) ≡ n = length-replicate n true in rw e (sym (mark_is at n pending le))

pub length-mark : (at n : ℕ) (pending : List Bool) → at ≤ length pending → length (mark at n pending) ≡ max (length pending) (at + n)
length-mark zero zero pending le = omega arith
length-mark zero (suc n) [] le = let rest = length-mark zero n [] (omega arith) in omega (arith, rest)
length-mark zero (suc n) (p ∷ pending) le = let rest = length-mark zero n pending (omega arith) in omega (arith, rest)
length-mark (suc at) n [] le = absurd (omega arith)
length-mark (suc at) n (p ∷ pending) le = let rest = length-mark at n pending (omega arith) in omega (arith, rest)

torn_more : (at n x y : ℕ) (old new : List ℕ) → y ≡ x → Torn at n old new → Torn (suc at) n (x ∷ old) (y ∷ new)
torn_more at n x y old new same torn =
    let e : suc at + n ≡ suc (at + n) = omega arith in
    record {
      before = λ i. same i ∷ torn.before i;
      after = rw e torn.after;
      no_shorter = omega (arith, torn.no_shorter);
      no_longer = omega (arith, torn.no_longer);
    }

torn_in : (n x y : ℕ) (old new : List ℕ) → Torn zero n old new → Torn zero (suc n) (x ∷ old) (y ∷ new)
torn_in n x y old new torn =
    let e : zero + suc n ≡ suc (zero + n) = omega arith in
    record {
      before = refl;
      after = rw e torn.after;
      no_shorter = omega (arith, torn.no_shorter);
      no_longer = omega (arith, torn.no_longer);
    }

-- a write that changes nothing is torn
pub torn_same : (at n : ℕ) (image : List ℕ) → Torn at n image image
torn_same at n image = record { before = refl; after = refl; no_shorter = omega arith; no_longer = omega arith }

-- what might have been left before
pub record Before (synced : List ℕ) (pending : List Bool) (at n : ℕ) (image : List ℕ) : Type 0 where
  pub content : List ℕ
  pub left : IsTrue (is_left synced pending content)
  pub torn : Torn at n content image

past_synced : (pending : List Bool) (image : List ℕ) (at n : ℕ) → at ≤ length pending → length image ≤ max (length pending) (at + n) → Before [] pending at n image
past_synced pending image at n le short = elim (cases_lt (length pending) (length image)) [
  | inl longer ↦
      let count : length (take (length pending) image) ≡ length pending = omega (arith, length-take (length pending) image) in
      record {
        content = take (length pending) image;
        left = le-leb _ _ (omega (arith, count));
        torn = record {
          before = sym (take-take at (length pending) image le);
          after = drop_all (at + n) image (omega arith) ∙ sym (drop_all (at + n) (take (length pending) image) (omega (arith, count)));
          no_shorter = omega (arith, count);
          no_longer = omega arith;
        };
      }
  | inr within ↦ record { content = image; left = le-leb _ _ within; torn = torn_same at n image }
]

step_back : (s b : ℕ) (p : Bool) (ss bs : List ℕ) (ps : List Bool) (n : ℕ) → Before ss ps zero n bs → Before (s ∷ ss) (p ∷ ps) zero (suc n) (b ∷ bs)
step_back s b p ss bs ps n rest = record {
  content = s ∷ rest.content;
  left = and_from _ _ (or_right_same p s) rest.left;
  torn = torn_in n s b rest.content bs rest.torn;
}
  where
    or_right_same : (p : Bool) (s : ℕ) → (p || (s == s)) ≡ true
    or_right_same true s = refl
    or_right_same false s = eq-eqb s s refl

-- what a stop may leave behind the write, it might have left before, torn
pub stepped : (synced : List ℕ) (pending : List Bool) (image : List ℕ) (at n : ℕ) → at ≤ length pending → length synced ≤ length pending → IsTrue (is_left synced (mark at n pending) image) → Before synced pending at n image
stepped [] pending image at n le covers left = past_synced pending image at n le (omega (arith, leb-true _ _ left, length-mark at n pending le))
stepped (s ∷ ss) [] image at n le covers left = absurd (omega arith)
stepped (s ∷ ss) (p ∷ ps) [] zero zero le covers left = absurd (false≢true left)
stepped (s ∷ ss) (p ∷ ps) [] zero (suc n) le covers left = absurd (false≢true left)
stepped (s ∷ ss) (p ∷ ps) [] (suc at) n le covers left = absurd (false≢true left)
stepped (s ∷ ss) (p ∷ ps) (b ∷ bs) zero zero le covers left = record { content = b ∷ bs; left = left; torn = torn_same zero zero (b ∷ bs) }
stepped (s ∷ ss) (p ∷ ps) (b ∷ bs) zero (suc n) le covers left =
    step_back s b p ss bs ps n (stepped ss ps bs zero n (omega arith) (omega arith) (and_parts true (is_left ss (mark zero n ps) bs) left).1)
stepped (s ∷ ss) (p ∷ ps) (b ∷ bs) (suc at) n le covers left =
    let parts = and_parts (p || (b == s)) (is_left ss (mark at n ps) bs) left in
    let rest = stepped ss ps bs at n (omega arith) (omega arith) parts.1 in
    record { content = b ∷ rest.content; left = and_from _ _ parts.0 rest.left; torn = torn_more at n b b rest.content bs refl rest.torn }

head_same : (at n x y : ℕ) (old new : List ℕ) → Torn (suc at) n (x ∷ old) (y ∷ new) → (y ≡ x) × Torn at n old new
head_same at n x y old new torn =
    let e : suc at + n ≡ suc (at + n) = omega arith in
    let rest : take at new ≡ take at old = ap (drop 1) torn.before in (
      ap (λ (l : List ℕ). get_or l 0 0) torn.before,
      record {
        before = rest;
        after = rw e at torn.after;
        no_shorter = omega (arith, torn.no_shorter);
        no_longer = omega (arith, torn.no_longer);
      },
    )

-- and what might have been left before, torn, may be left behind the write
pub torn_left : (synced : List ℕ) (pending : List Bool) (old new : List ℕ) (at n : ℕ) → at ≤ length pending → IsTrue (is_left synced pending old) → Torn at n old new → IsTrue (is_left synced (mark at n pending) new)
torn_left [] pending old new at n le left torn = le-leb _ _ (omega (arith, leb-true _ _ left, length-mark at n pending le, torn.no_longer))
torn_left (s ∷ ss) [] old new at n le left torn = absurd (false≢true left)
torn_left (s ∷ ss) (p ∷ ps) [] new at n le left torn = absurd (false≢true left)
torn_left (s ∷ ss) (p ∷ ps) (d ∷ ds) [] at n le left torn = absurd (omega (arith, torn.no_shorter))
torn_left (s ∷ ss) (p ∷ ps) (d ∷ ds) (b ∷ bs) zero zero le left torn = subst (λ l. IsTrue (is_left (s ∷ ss) (p ∷ ps) l)) (sym torn.after) left
torn_left (s ∷ ss) (p ∷ ps) (d ∷ ds) (b ∷ bs) zero (suc n) le left torn =
    let e : zero + suc n ≡ suc (zero + n) = omega arith in
    torn_left ss ps ds bs zero n (omega arith) (and_parts _ _ left).1 (record { before = refl; after = rw e at torn.after; no_shorter = omega (arith, torn.no_shorter); no_longer = omega (arith, torn.no_longer) })
torn_left (s ∷ ss) (p ∷ ps) (d ∷ ds) (b ∷ bs) (suc at) n le left torn =
    let same = head_same at n d b ds bs torn in
    let parts = and_parts _ _ left in
    and_from _ _ (subst (λ x. (p || (x == s)) ≡ true) (sym same.0) parts.0) (torn_left ss ps ds bs at n (omega arith) parts.1 same.1)
