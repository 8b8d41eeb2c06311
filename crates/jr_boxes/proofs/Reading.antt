-- Records that are read one after another, and those before one of them.
use Rattle.std.proofs.Common.{◌≡◌, ℕ, zero, suc, ◌+◌, List, [], ◌∷◌, ◌++◌, take, slice_get, Some, sym, ap, subst, add-one}
use Rattle.std.proofs.lemmas.Option.{slice_get_within}
use Rattle.jr_record.specs.declared.record.Record.{Record}
use Rattle.jr_boxes.specs.declared.tally.Tally.{Tally}
use Rattle.jr_boxes.specs.Outboxes.{IsOutbox, IsWrongAt}
use Rattle.jr_boxes.specs.Tallies.{Counted, MayFollow, HasTaken}
use Rattle.jr_boxes.proofs.Counting.{counted_more, follows}

taken_at : {A : Type 0} (xs : List A) (n : ℕ) (x : A) → slice_get xs n ≡ Some x → take (suc n) xs ≡ take n xs ++ x ∷ []
taken_at [] n x is = absurd (cc)
taken_at (y ∷ xs) zero x is = let same : y ≡ x = cc in ap (λ z. z ∷ []) same
taken_at (y ∷ xs) (suc n) x is = ap (λ zs. y ∷ zs) (taken_at xs n x is)

pub take_one_more : {A : Type 0} (xs : List A) (n : ℕ) (x : A) → slice_get xs n ≡ Some x → take (n + 1) xs ≡ take n xs ++ x ∷ []
take_one_more xs n x is = rw add-one (taken_at xs n x is)

-- a record of an outbox that was read and may follow, and one that may not
pub counted_on : (records : List Record) (at : ℕ) (old new : Tally) (r : Record) → slice_get records at ≡ Some r → Counted (take at records) old → MayFollow old r → HasTaken old new r
    → Counted (take (at + 1) records) new
counted_on records at old new r is counted may taken =
    subst (λ (rs : List Record). Counted rs new) (sym (take_one_more records at r is)) (counted_more (take at records) old new r counted may taken)

pub wrong_here : (records : List Record) (at : ℕ) (t : Tally) (r : Record) → slice_get records at ≡ Some r → Counted (take at records) t → (MayFollow t r → ⊥) → IsWrongAt records at
wrong_here records at t r is counted never = record {
  within = slice_get_within records at r is;
  history = counted.history;
  before = counted.outbox;
  excluded = λ h with_it. never (follows (take at records) t r h counted (subst (λ (rs : List Record). IsOutbox rs h) (take_one_more records at r is) with_it));
}
