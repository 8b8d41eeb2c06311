-- What is kept of the front of a line.
use Rattle.std.proofs.Common.{◌≡◌, ℕ, ◌<◌, ◌≤◌, true, false, if◌then◌else◌, List, ◌++◌, length, refl, sym, length-append, arith}
use Rattle.std.specs.Prelude.{Some, None, nat_le}
use Rattle.std.proofs.lemmas.Bool.Decides.{nat_tests}
use Rattle.gw_lines.specs.Lines.{longest}
use Rattle.gw_lines.specs.Reading.{kept}
use Rattle.gw_lines.specs.Kept.{kept_behind}

pub kept_short : (f : List ℕ) → length f ≤ longest → kept f ≡ Some f
kept_short f short = let within : nat_le (length f) longest ≡ true = grind (arith, nat_tests) in rw within refl

pub kept_long : (f : List ℕ) → longest < length f → kept f ≡ None
kept_long f long = let beyond : nat_le (length f) longest ≡ false = grind (arith, nat_tests) in rw beyond refl

within : (n : ℕ) → nat_le n longest ≡ true → n ≤ longest
within n e = grind (arith, nat_tests)

beyond : (n : ℕ) → nat_le n longest ≡ false → longest < n
beyond n e = grind (arith, nat_tests)

-- what is kept of a line tells it, where it is short
pub kept_tells : (f bytes : List ℕ) → kept f ≡ Some bytes → (length f ≤ longest) × (bytes ≡ f)
kept_tells f bytes =
    elim (nat_le (length f) longest) as (λ t. nat_le (length f) longest ≡ t → (if t then Some f else None) ≡ Some bytes → (length f ≤ longest) × (bytes ≡ f)) [
      | true ↦ λ short e. (within (length f) short, cc)
      | false ↦ λ long e. absurd (cc)
    ] refl

-- and that it is too long, where it is
pub lost_tells : (f : List ℕ) → kept f ≡ None → longest < length f
lost_tells f =
    elim (nat_le (length f) longest) as (λ t. nat_le (length f) longest ≡ t → (if t then Some f else None) ≡ None → longest < length f) [
      | true ↦ λ short e. absurd (cc)
      | false ↦ λ long e. beyond (length f) long
    ] refl

-- what is kept of a front and of what stands behind it
pub kept_more : (front more : List ℕ) → kept_behind (kept front) more ≡ kept (front ++ more)
kept_more front more =
    elim (nat_le (length front) longest) as (λ t. nat_le (length front) longest ≡ t → kept_behind (if t then Some front else None) more ≡ kept (front ++ more)) [
      | true ↦ λ short. refl
      | false ↦ λ long. let beyond : longest < length front = beyond (length front) long in sym (kept_long (front ++ more) (omega (arith, length-append front more)))
    ] refl
