-- What the tables hold, from which the sum is looked up. No public clause speaks of them.
use Rattle.std.specs.Prelude.{ℕ, zero, suc}
use Rattle.crc32c.specs.Sums.{eight_steps}

-- eight steps, so many times
abbrev pub steps_on : ℕ → ℕ → ℕ
steps_on zero c = c
steps_on (suc n) c = eight_steps (steps_on n c)
