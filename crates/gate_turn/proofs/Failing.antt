-- A failed call between two counts of faults is one between a lower count and a higher one too.
use Rattle.std.proofs.Common.{ℕ, ◌≤◌, arith}
use Rattle.gate_turn.specs.Views.{HasFailed}

-- from a count that was not above
pub failed_before : (a b c : ℕ) → a ≤ b → HasFailed b c → HasFailed a c
failed_before a b c least f = record { rose = omega (arith, least, f.rose); disk = omega (arith, least, f.disk) }

-- to a count that is not below
pub failed_after : (a b c : ℕ) → HasFailed a b → b ≤ c → HasFailed a c
failed_after a b c f least = record { rose = omega (arith, least, f.rose); disk = omega (arith, least, f.disk) }
