-- What a list of passes has.
use Rattle.std.specs.Prelude.{ℕ, Option, Some, None}
use Rattle.gate_turn.specs.Views.{Part, new_part, nothing}
use Rattle.gate_turn.specs.Places.{known, at_number}
use Rattle.gate_turn.specs.declared.pass.Pass.{Pass}
use Rattle.gate_turn.specs.declared.passes.Passes.{Passes}

-- the pass of number n, if the list has it
abbrev pub pass_at : {T : Type 0} → Passes T → ℕ → Option (Pass T)
pass_at passes n = at_number passes.places n

-- what a pass knows, if it is there
abbrev pub known_if : {T : Type 0} → Option (Pass T) → Part
known_if None = new_part 0 0 nothing
known_if (Some p) = known p

-- what the pass of number n in the list knows
abbrev pub known_at : {T : Type 0} → Passes T → ℕ → Part
known_at passes n = known_if (pass_at passes n)
