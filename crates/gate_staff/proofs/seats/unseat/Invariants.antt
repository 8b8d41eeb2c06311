use Rattle.std.proofs.Common.{◌≡◌, ℕ, ◌+◌, ◌<◌, ◌≤◌, slice_index_or, Some}
use Rattle.std.specs.Prelude.{vec_len}
use Rattle.gate_turn.specs.Listed.{pass_at}
use Rattle.gate_staff.specs.Seats.{Seated, HasBehind}
use Rattle.gate_staff.specs.declared.sender.Sender.{Sender}
use Rattle.gate_staff.proofs.seats.unseat.Given as goal

abbrev pub invariant-loop : goal.invariant-loop
invariant-loop g l = record {
  left : vec_len l.senders + l.counter ≡ vec_len l.fn.senders;
  seated : Seated l.gate l.senders.items (vec_len l.fn.senders + 1);
  behind : HasBehind l.gate l.passes (vec_len l.senders) (vec_len l.fn.senders + 1);
  same : (i : ℕ) (d : Sender _ _) → i < vec_len l.senders → slice_index_or l.fn.senders.items i d ≡ slice_index_or l.senders.items i d;
  theirs : (i : ℕ) (d : Sender _ _) → vec_len l.senders ≤ i → i < vec_len l.fn.senders → pass_at l.passes (i + 1) ≡ Some (slice_index_or l.fn.senders.items i d).pass;
  others : (n : ℕ) → vec_len l.fn.senders < n → pass_at l.passes n ≡ pass_at l.fn.passes n;
}
