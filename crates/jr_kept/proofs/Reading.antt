-- Records that are read one after another, each from some list for which the journal stands.
use Rattle.std.proofs.Common.{◌≡◌, ℕ, zero, suc, ◌+◌, ◌<◌, ◌≤◌, false, List, [], ◌∷◌, ◌++◌, length, take, drop, slice_get, Option, Some, refl, sym, ap, subst, ◌∙◌, arith, add-one}
use Rattle.std.proofs.Math.Logic.{∥∥₁_elim, ∥∥₁_map}
use Rattle.std.proofs.lemmas.List.{map-append, take_all}
use mathlib.Core.List.{is_set as List-set}
use mathlib.Core.Sum.{⊎_set}
use native.Mathlib.Nat.{ℕ_set}
use Rattle.jr_record.specs.declared.record.Record.{Record}
use Rattle.jr_dated.specs.Dated.{Dated, undated}
use Rattle.jr_dated.specs.Journals.{Holds}
use Rattle.jr_boxes.specs.declared.tally.Tally.{Tally}
use Rattle.jr_boxes.specs.Tallies.{Counted, Tallies, MayFollow, HasTaken}
use Rattle.jr_boxes.proofs.Counting.{counted_more}
use Rattle.jr_kept.specs.Tallies.{HoldsAs}

-- what was read so far, and one record more
pub read_on : (n : ℕ) (h k : List Dated) (d : Dated) → n < length h → slice_get k n ≡ Some d → take (n + 1) (take n h ++ drop n k) ≡ take n h ++ d ∷ []
read_on n h k d within is = ap (λ (m : ℕ). take m (take n h ++ drop n k)) (add-one n) ∙ one_on n h k d within is
  where
    one_on : (n : ℕ) (h k : List Dated) (d : Dated) → n < length h → slice_get k n ≡ Some d → take (suc n) (take n h ++ drop n k) ≡ take n h ++ d ∷ []
    one_on zero h [] d within is = absurd (cc)
    one_on zero h (e ∷ k) d within is = let same : e ≡ d = cc in ap (λ (x : Dated). x ∷ []) same
    one_on (suc n) [] k d within is = absurd (omega arith)
    one_on (suc n) (x ∷ h) [] d within is = absurd (cc)
    one_on (suc n) (x ∷ h) (y ∷ k) d within is = ap (λ (ds : List Dated). x ∷ ds) (one_on n h k d (omega arith) is)

-- a record that was read, without its moment
pub bare_at : (h : List Dated) (n : ℕ) (d : Dated) → slice_get h n ≡ Some d → slice_get (undated h) n ≡ Some d.what
bare_at [] n d is = absurd (cc)
bare_at (e ∷ h) zero d is = let same : e ≡ d = cc in ap (λ (x : Dated). Some x.what) same
bare_at (e ∷ h) (suc n) d is = bare_at h n d is

record_set : IsSet Record
record_set = hlevel (ℕ_set, List-set, ⊎_set)

option_set : IsSet (Option Record)
option_set = hlevel (record_set, ℕ_set, List-set, ⊎_set)

-- where the journal stands for one list, what was read is that list's
pub read_told : {J : Type 0} (stands : J → List Dated → Type 0) (j : J) (h : List Dated) (n : ℕ) (d : Dated) → ((k : List Dated) → stands j k → k ≡ h)
    → ∥ ((k : List Dated) × stands j k × (slice_get k n ≡ Some d)) ∥₁ → slice_get (undated h) n ≡ Some d.what
read_told stands j h n d same found = ∥∥₁_elim found (option_set (slice_get (undated h) n) (Some d.what)) (λ f.
    subst (λ (ds : List Dated). slice_get (undated ds) n ≡ Some d.what) (same f.0 f.1) (bare_at f.0 n d f.2))

-- nothing is counted of no records
pub nothing_counted : (t : Tally) → Tallies t (record { made = []; finished = false }) → Counted [] t
nothing_counted t is = record {
  history = record { made = []; finished = false };
  outbox = record { spelled = refl; senders = tt; payloads = tt; in_order = λ s. refl };
  tallied = is;
}

-- the journal holds a list of which so many records were counted
abbrev pub CountedSome : {J : Type 0} (stands : J → List Dated → Type 0) (leaves : J → Option (List Dated) → Type 0) → J → ℕ → Tally → Type 0
CountedSome stands leaves j n t = ∥ ((h : List Dated) × Holds stands leaves j h [] × Counted (undated (take n h)) t) ∥₁

undated-more : (ds : List Dated) (d : Dated) → undated (ds ++ d ∷ []) ≡ undated ds ++ d.what ∷ []
undated-more ds d = map-append (λ (e : Dated). e.what) ds (d ∷ [])

module _ {J : Type 0} (stands : J → List Dated → Type 0) (leaves : J → Option (List Dated) → Type 0) (old new : J) where
  -- one record more was read, and counted
  pub counted_some_more : (n : ℕ) (t u : Tally) (d : Dated) → ((h k : List Dated) → Holds stands leaves old h [] → stands old k → Holds stands leaves old (take n h ++ drop n k) [])
      → ((h : List Dated) → stands old h → n < length h) → ((h : List Dated) → Holds stands leaves old h [] → Holds stands leaves new h [])
      → MayFollow t d.what → HasTaken t u d.what → ∥ ((k : List Dated) × stands old k × (slice_get k n ≡ Some d)) ∥₁ → CountedSome stands leaves old n t → CountedSome stands leaves new (n + 1) u
  counted_some_more n t u d crossed within moved may taken found some = ∥∥₁_elim found squash₁ (λ f. ∥∥₁_map some (λ s. (
    take n s.0 ++ drop n f.0,
    moved (take n s.0 ++ drop n f.0) (crossed s.0 f.0 s.1 f.1),
    subst (λ (rs : List Record). Counted rs u)
        (sym (undated-more (take n s.0) d) ∙ ap (λ (ds : List Dated). undated ds) (sym (read_on n s.0 f.0 d (within s.0 s.1.stands_for) f.2)))
        (counted_more (undated (take n s.0)) t u d.what s.2 may taken),
  )))

-- all of its records were counted
pub counted_all : {J : Type 0} (stands : J → List Dated → Type 0) (leaves : J → Option (List Dated) → Type 0) (j : J) (n : ℕ) (t : Tally) → ((h : List Dated) → stands j h → length h ≤ n)
    → CountedSome stands leaves j n t → ∥ ((h : List Dated) × Holds stands leaves j h [] × Counted (undated h) t) ∥₁
counted_all stands leaves j n t within some = ∥∥₁_map some (λ s. (
  s.0,
  s.1,
  subst (λ (ds : List Dated). Counted (undated ds) t) (take_all n s.0 (within s.0 s.1.stands_for)) s.2,
))

-- a list that the journal holds, and that was counted, is that of a history
pub held_counted : {J : Type 0} (stands : J → List Dated → Type 0) (leaves : J → Option (List Dated) → Type 0) (j : J) (t : Tally) (h : List Dated) → Holds stands leaves j h [] → (c : Counted (undated h) t)
    → HoldsAs stands leaves j t c.history []
held_counted stands leaves j t h holds c = record {
  dated = h;
  late = [];
  bare = c.outbox.spelled;
  bare_late = refl;
  journal = holds;
  outbox = record { spelled = refl; senders = c.outbox.senders; payloads = c.outbox.payloads; in_order = c.outbox.in_order };
  tallied = c.tallied;
}

-- how many records were read
pub taken_length : (n : ℕ) (h : List Dated) → n < length h → n ≡ length (undated (take n h))
taken_length zero h within = refl
taken_length (suc n) [] within = absurd (omega arith)
taken_length (suc n) (d ∷ h) within = ap suc (taken_length n h (omega arith))
