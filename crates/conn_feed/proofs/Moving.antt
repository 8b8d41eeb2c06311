-- What the passes of all senders know, behind a piece of one of them.
use Rattle.std.proofs.Common.{◌≡◌, ◌≢◌, inl, inr, ℕ, zero, suc, ◌-◌, ◌<◌, ◌≤◌, List, [], ◌∷◌, length, slice_index_or, refl, sym, ap, subst, ◌∙◌, arith}
use Rattle.std.proofs.lemmas.Bool.{cases_lt}
use Rattle.jr_dated.specs.declared.journal.Journal.{Ghosts}
use Rattle.gate_turn.specs.Views.{Part, new_part, nothing}
use Rattle.gate_turn.specs.Rule.{In}
use Rattle.gate_turn.specs.Places.{known}
use Rattle.gate_senders.specs.declared.gate.Gate.{Gate}
use Rattle.gate_senders.specs.declared.submission.Submission.{Submission}
use Rattle.gate_staff.specs.declared.sender.Sender.{Sender}
use Rattle.plan_feed.specs.Pieces.{Messages}
use Rattle.conn_feed.specs.Fed.{AtSeats, parts_of, part_at}
use Rattle.conn_feed.specs.Course.{Submits, Went}
use Rattle.conn_feed.proofs.Making.{Moves}

none : Part
none = new_part 0 0 nothing

module _ {J : Type 0} {G : Ghosts J} where
  pub parts_long : (senders : List (Sender J G)) → length (parts_of senders) ≡ length senders
  parts_long [] = refl
  parts_long (s ∷ ss) = ap suc (parts_long ss)

  part_in : (senders : List (Sender J G)) (k : ℕ) (d : Sender J G) → k < length senders → slice_index_or (parts_of senders) k (new_part 0 0 nothing) ≡ known (slice_index_or senders k d).pass
  part_in [] k d l = absurd (omega (arith, l))
  part_in (s ∷ ss) zero d l = refl
  part_in (s ∷ ss) (suc k) d l = part_in ss k d (omega (arith, l))

  part_past : (senders : List (Sender J G)) (k : ℕ) → length senders ≤ k → slice_index_or (parts_of senders) k (new_part 0 0 nothing) ≡ new_part 0 0 nothing
  part_past [] k l = refl
  part_past (s ∷ ss) zero l = absurd (omega (arith, l))
  part_past (s ∷ ss) (suc k) l = part_past ss k (omega (arith, l))

  -- what the pass of a number knows
  pub at_seat : (senders : List (Sender J G)) (s : ℕ) (d : Sender J G) → In (length senders) s → part_at (parts_of senders) s ≡ known (slice_index_or senders (s - 1) d).pass
  at_seat senders zero d i = absurd (omega (arith, i.from_one))
  at_seat senders (suc k) d i =
      let e : suc k - 1 ≡ k = omega arith in
      part_in senders k d (omega (arith, i.up_to)) ∙ ap (λ (j : ℕ). known (slice_index_or senders j d).pass) (sym e)

  pub some_seat : (senders : List (Sender J G)) → 0 < length senders → Sender J G
  some_seat [] l = absurd (omega (arith, l))
  some_seat (s ∷ ss) l = s

  others_stay : (before after : List (Sender J G)) (s : ℕ) (d : Sender J G) → length after ≡ length before
      → ((i : ℕ) (d : Sender J G) → i ≢ s - 1 → slice_index_or after i d ≡ slice_index_or before i d) → In (length before) s → (t : ℕ) → t ≢ s → part_at (parts_of after) t ≡ part_at (parts_of before) t
  others_stay before after s d long stay i zero other = refl
  others_stay before after s d long stay i (suc k) other = elim (cases_lt k (length before)) [
    | inl within ↦ part_in after k d (omega (arith, within, long))
        ∙ ap (λ (x : Sender J G). known x.pass) (stay k d (λ e. other (omega (arith, e, i.from_one)))) ∙ sym (part_in before k d within)
    | inr past ↦ part_past after k (omega (arith, past, long)) ∙ sym (part_past before k (omega (arith, past)))
  ]

  pub moves : (gate : Gate J G) (before after : List (Sender J G)) (piece : Messages) (r : Submission) → AtSeats gate before → In (length before) piece.sender → Went before after piece r
      → Moves (parts_of before) (parts_of after) piece.sender piece.payloads r
  moves gate before after piece r at i w =
      let s = piece.sender in
      let d : Sender J G = some_seat before (omega (arith, i.from_one, i.up_to)) in
      let j : In (length after) s = subst (λ n. In n s) (sym w.long) i in
      let p : part_at (parts_of before) s ≡ known (slice_index_or before (s - 1) d).pass = at_seat before s d i in
      let q : part_at (parts_of after) s ≡ known (slice_index_or after (s - 1) d).pass = at_seat after s d j in
      let numbered = at.seated.numbers (s - 1) d (omega (arith, i.from_one, i.up_to)) in
      record {
        there = subst (λ n. In n s) (sym (parts_long before)) i;
        long = parts_long after ∙ w.long ∙ sym (parts_long before);
        number = ap (λ (x : Part). x.number) p ∙ numbered ∙ omega (arith, i.from_one);
        this = subst (λ x. Submits x (part_at (parts_of after) s) piece.payloads r) (sym p) (subst (λ x. Submits (known (slice_index_or before (s - 1) d).pass) x piece.payloads r) (sym q) (w.this d));
        others = others_stay before after s d w.long w.others i;
      }

  -- what a sender counts
  pub own_is : (gate : Gate J G) (senders : List (Sender J G)) (s own : ℕ) → AtSeats gate senders → In (length senders) s → ((d : Sender J G) → own ≡ (slice_index_or senders (s - 1) d).done)
      → own ≡ length (part_at (parts_of senders) s).mine
  own_is gate senders s own at i is =
      let d : Sender J G = some_seat senders (omega (arith, i.from_one, i.up_to)) in
      is d ∙ at.counted (s - 1) d (omega (arith, i.from_one, i.up_to)) ∙ ap (λ (x : Part). length x.mine) (sym (at_seat senders s d i))
