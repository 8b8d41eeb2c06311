-- What the calls of a turn lock ask of a pass, and tell of it.
use Rattle.std.specs.Prelude.{◌≡◌, ℕ, ◌==◌, if◌then◌else◌, ◌≤◌, [], ◌∷◌, Some, None}
use Rattle.gate_turn.specs.Views.{Account, Part, new_part}
use Rattle.gate_turn.specs.Rule.{In}
use Rattle.gate_turn.specs.Places.{known}
use Rattle.gate_turn.specs.Listed.{pass_at, known_at}
use Rattle.gate_turn.specs.declared.pass.Pass.{Pass}
use Rattle.gate_turn.specs.declared.passes.Passes.{Passes}
use Rattle.gate_turn.specs.declared.lock.TurnLock.{TurnLock}

-- the pass does not wait, and has not the turn
pub record IsFree {T : Type 0} (p : Pass T) : Type 0 where
  pub slot : p.seat.me.1 ≡ []
  pub ticket : (known p).ticket ≡ None
  pub held : (known p).held ≡ None

-- the pass has the turn, and its holder has the value
pub record HasTurn {T : Type 0} (p : Pass T) : Type 0 where
  pub slot : p.seat.me.1 ≡ (0, None) ∷ []
  pub held : (known p).held ≡ Some (known p).seen

-- the pass was made with the lock
abbrev pub IsPassOf : {T : Type 0} → TurnLock T → Pass T → Type 0
IsPassOf lock p = p.seat.table_id ≡ lock.table.shared.table_id

-- the value as the lock was made
abbrev pub opened_with : {T : Type 0} → TurnLock T → T
opened_with lock = lock.table.shared.key.value

-- the list has the pass of number n, which is one of the lock's and is free
pub record HasBack {T : Type 0} (lock : TurnLock T) (passes : Passes T) (n : ℕ) : Type 0 where
  pub pass : Pass T
  pub there : pass_at passes n ≡ Some pass
  pub own : IsPassOf lock pass
  pub free : IsFree pass

-- what the pass of number n knows where so many were made with a value that said this of itself
abbrev pub made_part : ℕ → Account → ℕ → Part
made_part made a n = new_part n (if n == 1 then made else 0) a

-- the passes that a lock is made with: those of the numbers from 1 to `made`, each new, and no others
pub record MadeWith {T : Type 0} (lock : TurnLock T) (passes : Passes T) (made : ℕ) (a : Account) : Type 0 where
  pub each : (n : ℕ) → In made n → HasBack lock passes n × (known_at passes n ≡ made_part made a n)
  pub others : (n : ℕ) → ¬ In made n → pass_at passes n ≡ None

-- all passes of the lock are back: those from 1 to the number that the first one counts. What stands beside them are passes of the lock too
pub record AllBack {T : Type 0} (lock : TurnLock T) (passes : Passes T) : Type 0 where
  pub some_made : 1 ≤ (known_at passes 1).made
  pub few : (known_at passes 1).made ≤ 18
  pub each : (n : ℕ) → In (known_at passes 1).made n → HasBack lock passes n
  pub others : (n : ℕ) (p : Pass T) → pass_at passes n ≡ Some p → IsPassOf lock p × IsFree p
