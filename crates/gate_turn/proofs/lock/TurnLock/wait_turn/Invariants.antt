use Rattle.std.proofs.Common.{◌≡◌, ℕ, ◌%◌, ◌^◌, [], ◌∷◌}
use Rattle.gate_turn.specs.Views.{part_of, drawn}
use Rattle.gate_turn.proofs.lock.TurnLock.wait_turn.Given as goal

abbrev pub invariant-loop : goal.invariant-loop
invariant-loop g l =
    (t : ℕ) × (l.ticket ≡ t % 2 ^ 64) × (l.seat.table_id ≡ l.fn.seat.table_id) × (l.seat.me.0 ≡ drawn t (part_of l.fn.seat.me.0) ∷ []) × (l.seat.me.1 ≡ [])
