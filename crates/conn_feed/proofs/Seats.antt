-- The senders at their seats, behind a piece of one of them.
use Rattle.std.proofs.Common.{◌≡◌, inl, inr, ℕ, ◌+◌, ◌<◌, ◌≤◌, List, length, take, slice_index_or, slice_set, sym, ap, subst, ◌∙◌, length-append, arith}
use Rattle.std.proofs.lemmas.Bool.{cases_eq}
use Rattle.std.proofs.lemmas.List.{length-take-le, length-set, get_or-set_same, get_or-set_other}
use Rattle.std.proofs.lemmas.List.Elements.{All-set}
use Rattle.jr_dated.specs.declared.journal.Journal.{Ghosts}
use Rattle.gate_turn.specs.Views.{Part}
use Rattle.gate_turn.specs.Places.{known}
use Rattle.gate_senders.specs.declared.gate.Gate.{Gate}
use Rattle.gate_senders.specs.Shown.{SubmittedAll, entries_after}
use Rattle.gate_staff.specs.Runs.{IsReady, CountedEach}
use Rattle.gate_staff.specs.Seats.{Seated}
use Rattle.gate_staff.specs.declared.sender.Sender.{Sender}
use Rattle.conn_feed.specs.Fed.{AtSeats, IsCounted}
use Rattle.conn_feed.proofs.Making.{behind_long}

-- so many were added as there are more entries
added_long : (p : Part) (ps : List (List ℕ)) (count : ℕ) → count ≤ length ps → length (entries_after p (take count ps)) ≡ count
added_long p ps count within = behind_long p.number (length p.mine) (take count ps) ∙ length-take-le count ps within

pub within_number : (p q : Part) (ps : List (List ℕ)) (count number : ℕ) → count ≤ length ps → SubmittedAll p q (take count ps) → number ≡ length q.seen.made → count ≤ number
within_number p q ps count number within a is =
    let all : length q.seen.made ≡ length a.before + length (entries_after p (take count ps)) = ap length a.last ∙ length-append a.before (entries_after p (take count ps)) in
    let more = added_long p ps count within in
    omega (arith, all, more, is)

pub counts_on : (p q : Part) (ps : List (List ℕ)) (own count : ℕ) → count ≤ length ps → SubmittedAll p q (take count ps) → own ≡ length p.mine → own + count ≡ length q.mine
counts_on p q ps own count within a is =
    let all : length q.mine ≡ length p.mine + length (entries_after p (take count ps)) = ap length a.mine ∙ length-append p.mine (entries_after p (take count ps)) in
    let more = added_long p ps count within in
    omega (arith, all, more, is)

module _ {J : Type 0} {G : Ghosts J} where
  number_at : List (Sender J G) → ℕ → Sender J G → ℕ
  number_at senders i d = (known (slice_index_or senders i d).pass).number

  made_at : List (Sender J G) → ℕ → Sender J G → ℕ
  made_at senders i d = (known (slice_index_or senders i d).pass).made

  -- a sender in the place of another, with a pass of the same number that was made with as many others
  pub set_seat : (gate : Gate J G) (senders : List (Sender J G)) (k : ℕ) (s t : Sender J G) → AtSeats gate senders → k < length senders → ((d : Sender J G) → slice_index_or senders k d ≡ s)
      → IsReady gate t → (known t.pass).number ≡ (known s.pass).number → (known t.pass).made ≡ (known s.pass).made → IsCounted t → AtSeats gate (slice_set senders k t)
  unfolding number_at made_at
  set_seat gate senders k s t at there is ready number made counted =
      let long : length (slice_set senders k t) ≡ length senders = length-set senders k t in
      record {
        few = omega (arith, long, at.few);
        seated = record {
          ready = All-set (IsReady gate) senders k t ready at.seated.ready;
          numbers = λ i d l. elim (cases_eq i k) [
            | inl e ↦ subst (λ j. number_at (slice_set senders k t) j d ≡ j + 1) (sym e)
                (ap (λ (x : Sender J G). (known x.pass).number) (get_or-set_same senders k t d there) ∙ number ∙ ap (λ (x : Sender J G). (known x.pass).number) (sym (is d)) ∙ at.seated.numbers k d there)
            | inr other ↦ ap (λ (x : Sender J G). (known x.pass).number) (get_or-set_other senders k i t d other) ∙ at.seated.numbers i d (omega (arith, l, long))
          ];
          first = λ d l. elim (cases_eq 0 k) [
            | inl e ↦ subst (λ j. made_at (slice_set senders k t) j d ≡ length (slice_set senders k t) + 1) (sym e)
                (ap (λ (x : Sender J G). (known x.pass).made) (get_or-set_same senders k t d there) ∙ made ∙ ap (λ (x : Sender J G). (known x.pass).made) (sym (is d))
                ∙ ap (λ j. made_at senders j d) (sym e) ∙ at.seated.first d (omega (arith, l, long)) ∙ ap (λ n. n + 1) (sym long))
            | inr other ↦ ap (λ (x : Sender J G). (known x.pass).made) (get_or-set_other senders k 0 t d other) ∙ at.seated.first d (omega (arith, l, long)) ∙ ap (λ n. n + 1) (sym long)
          ];
        };
        counted = All-set IsCounted senders k t counted at.counted;
      }

  -- senders that were seated and counted
  pub seated_at : (gate : Gate J G) (old new : List (Sender J G)) (n m : ℕ) → n ≡ length new → m ≡ length old → n ≡ m → m ≤ 16 → Seated gate new (n + 1) → CountedEach gate old new → AtSeats gate new
  seated_at gate old new n m long old_long same few seated each = record {
    few = omega (arith, long, same, few);
    seated = subst (λ k. Seated gate new (k + 1)) long seated;
    counted = λ i d l. (each.each i d (omega (arith, l, long, old_long, same))).done;
  }
