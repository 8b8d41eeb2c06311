-- Bits of a number.
use Rattle.std.proofs.Common.{◌≡◌, ℕ, ◌<◌, ◌≤◌, ◌/◌, ◌^◌, false, refl, arith}
use Rattle.std.proofs.Math.Pow.{pow_mono}
use Rattle.std.proofs.Math.Nat.{div-eq_of_lt}
use Rattle.text_names.specs.Values.{has_bit}

-- a bit past the number is not set
pub high_unset : (number bit : ℕ) → number < 2 ^ 128 → 128 ≤ bit → has_bit number bit ≡ false
high_unset number bit small high =
    let grows : 2 ^ 128 ≤ 2 ^ bit = pow_mono high in
    let below : number < 2 ^ bit = omega arith in
    let none : number / 2 ^ bit ≡ 0 = div-eq_of_lt below in
    rw none refl
