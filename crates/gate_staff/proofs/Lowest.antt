-- The lowest refusal of the senders before a place.
use Rattle.std.proofs.Common.{◌≡◌, ◌<◌, ◌≤◌, ◌+◌, ℕ, List, length, slice_index_or, Some, Result, Ok, Err, arith, sym, ap, ◌∙◌, subst}
use Rattle.std.proofs.lemmas.Option.{none-some}
use Rattle.std.proofs.lemmas.List.Elements.{AllWithin-more}
use Rattle.std.specs.List.{AllWithin, HoldsAt, Contains}
use Rattle.jr_dated.specs.declared.journal.Journal.{Ghosts}
use Rattle.jr_boxes.specs.declared.faults.SubmitFault.{SubmitFault}
use Rattle.gate_turn.specs.Places.{known}
use Rattle.gate_staff.specs.Runs.{HasNone, IsNotBelow, IsLowest}
use Rattle.gate_staff.specs.declared.sender.Sender.{Sender}

module _ {J : Type 0} {G : Ghosts J} where
  -- f is the refusal of a sender of the number n, and no sender before the place i that met one has a lower number
  pub record IsLeast (senders : List (Sender J G)) (i n : ℕ) (f : SubmitFault) : Type 0 where
    pub sender : Sender J G
    pub there : Contains senders sender
    pub refused : sender.refused ≡ Some f
    pub number : (known sender.pass).number ≡ n
    pub lowest : AllWithin (IsNotBelow n) senders 0 i

  -- before the place i no sender met a refusal, and n is above all numbers; or else n and f are the lowest one's
  abbrev pub IsLowestUpTo : List (Sender J G) → ℕ → ℕ → Result (Unit {0}) SubmitFault → Type 0
  IsLowestUpTo senders i n (Ok _) = AllWithin HasNone senders 0 i × (18 < n)
  IsLowestUpTo senders i n (Err f) = IsLeast senders i n f

  pub lowest_of : (senders : List (Sender J G)) (n : ℕ) (answer : Result (Unit {0}) SubmitFault) → IsLowestUpTo senders (length senders) n answer → IsLowest senders answer
  lowest_of senders n (Ok _) h = λ k d lt. h.0 k d (omega arith) lt
  lowest_of senders n (Err f) h = record {
    sender = h.sender;
    there = h.there;
    refused = h.refused;
    lowest = λ k d lt g e. let least = h.lowest k d (omega arith) lt g e in omega (arith, least, h.number);
  }

  -- the sender at the place i met none
  pub lowest_past : (senders : List (Sender J G)) (i n : ℕ) (answer : Result (Unit {0}) SubmitFault) → HoldsAt HasNone senders i → IsLowestUpTo senders i n answer
      → IsLowestUpTo senders (i + 1) n answer
  lowest_past senders i n (Ok _) none h = (AllWithin-more HasNone senders 0 i h.0 none, h.1)
  lowest_past senders i n (Err f) none h = record {
    sender = h.sender;
    there = h.there;
    refused = h.refused;
    number = h.number;
    lowest = AllWithin-more (IsNotBelow n) senders 0 i h.lowest (λ d g e. absurd (none-some g (sym (none d) ∙ e)));
  }

  not_below_more : (m n : ℕ) (t : Sender J G) → m ≤ n → IsNotBelow n t → IsNotBelow m t
  not_below_more m n t least h = λ g e. let k = h g e in omega (arith, least, k)

  -- the sender at the place i met one, and its number m is lower than that of those before
  pub lowest_new : (senders : List (Sender J G)) (i n m : ℕ) (answer : Result (Unit {0}) SubmitFault) (s : Sender J G) (f : SubmitFault) → i < length senders → HoldsAt (λ t. t ≡ s) senders i
      → s.refused ≡ Some f → m ≡ (known s.pass).number → m < n → IsLowestUpTo senders i n answer → IsLowestUpTo senders (i + 1) m (Err f)
  lowest_new senders i n m answer s f inside is refused number lower h = record {
    sender = s;
    there = (i, inside, is s);
    refused = refused;
    number = sym number;
    lowest = AllWithin-more (IsNotBelow m) senders 0 i (before answer h)
        (λ d g e. let k = ap (λ (t : Sender J G). (known t.pass).number) (is d) in omega (arith, k, number));
  }
    where
      before : (r : Result (Unit {0}) SubmitFault) → IsLowestUpTo senders i n r → AllWithin (IsNotBelow m) senders 0 i
      before (Ok _) x = λ k d low high g e. absurd (none-some g (sym (x.0 k d low high) ∙ e))
      before (Err g) x = λ k d low high. not_below_more m n (slice_index_or senders k d) (omega (arith, lower)) (x.lowest k d low high)

  -- the sender at the place i met one, and its number is not lower
  pub lowest_kept : (senders : List (Sender J G)) (i n : ℕ) (answer : Result (Unit {0}) SubmitFault) (s : Sender J G) → HoldsAt (λ t. t ≡ s) senders i → n ≤ (known s.pass).number
      → (known s.pass).number ≤ 18 → IsLowestUpTo senders i n answer → IsLowestUpTo senders (i + 1) n answer
  lowest_kept senders i n (Ok _) s is kept few h = absurd (omega (arith, h.1, kept, few))
  lowest_kept senders i n (Err f) s is kept few h = record {
    sender = h.sender;
    there = h.there;
    refused = h.refused;
    number = h.number;
    lowest = AllWithin-more (IsNotBelow n) senders 0 i h.lowest (λ d g e. let k = ap (λ (t : Sender J G). (known t.pass).number) (is d) in omega (arith, k, kept));
  }

  pub lowest_same : (senders : List (Sender J G)) (i m n : ℕ) (q r : Result (Unit {0}) SubmitFault) → m ≡ n → q ≡ r → IsLowestUpTo senders i n r → IsLowestUpTo senders i m q
  lowest_same senders i m n q r numbers answers h = subst (λ k. IsLowestUpTo senders i k q) (sym numbers) (subst (λ x. IsLowestUpTo senders i n x) (sym answers) h)
