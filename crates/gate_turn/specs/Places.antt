-- What a pass knows, and a list that has a place for the pass of each number.
use Rattle.std.specs.Prelude.{◌≡◌, ℕ, zero, suc, List, Option, Some, None, slice_index_or}
use Rattle.gate_turn.specs.Views.{Part, part_of}
use Rattle.gate_turn.specs.declared.pass.Pass.{Pass}

-- what a pass knows
abbrev pub known : {T : Type 0} → Pass T → Part
known p = part_of p.seat.me.0

-- what stands in the place of number n, from 1 on
abbrev pub at_number : {T : Type 0} → List (Option (Pass T)) → ℕ → Option (Pass T)
at_number places zero = None
at_number places (suc k) = slice_index_or places k None

-- each pass stands in the place of its number
abbrev pub InPlace : {T : Type 0} → List (Option (Pass T)) → Type 0
InPlace {T} places = (n : ℕ) (p : Pass T) → at_number places n ≡ Some p → p.number ≡ n
