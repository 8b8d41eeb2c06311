-- The rule of a line, a queue from one hand to another (this project's profile): what was popped and what is queued is, in order, what was pushed.
use Rattle.std.specs.Prelude.{◌≡◌, ℕ, Bool, true, List, ◌++◌}
use mathlib.Core.Option.{some}
use lib.ListN.{get_elem?}
use Rattle.order_gate.specs.declared.line.Log.{Log}

-- what a pass may do, what it has pushed and what it has popped
abbrev pub log : Bool → Bool → List ℕ → List ℕ → Log
log pushes pops pushed popped = record { pushes = pushes; pops = pops; pushed = pushed; popped = popped }

-- one pass at most pushes, and one at most pops
pub record InOrder (items : List ℕ) (views : List Log) : Type 0 where
  pub writer : ℕ
  pub reader : ℕ
  pub pushed : List ℕ
  pub popped : List ℕ
  pub order : pushed ≡ popped ++ items
  pub writes : (at : ℕ) (v : Log) → get_elem? views at ≡ some v → v.pushes ≡ true → (at ≡ writer) × (v.pushed ≡ pushed)
  pub reads : (at : ℕ) (v : Log) → get_elem? views at ≡ some v → v.pops ≡ true → (at ≡ reader) × (v.popped ≡ popped)
