-- What a gate was made with, which passes are its own, and what comes out of it once they are back.
use Rattle.std.specs.Prelude.{◌≡◌, ℕ, ◌≤◌, false, List, []}
use Rattle.session_model.specs.Journal.{History, OutboxRecord}
use Rattle.jr_dated.specs.declared.journal.Journal.{Ghosts}
use Rattle.jr_kept.specs.declared.outbox.Outbox.{Outbox}
use Rattle.jr_kept.specs.Outbox.{HoldsBox, is_broken}
use Rattle.gate_turn.specs.Views.{Account}
use Rattle.gate_turn.specs.Places.{known}
use Rattle.gate_turn.specs.Listed.{known_at}
use Rattle.gate_turn.specs.Steps.{Closed}
use Rattle.gate_turn.specs.Calls.{IsPassOf, HasBack, MadeWith, AllBack, opened_with}
use Rattle.gate_turn.specs.declared.pass.Pass.{Pass}
use Rattle.gate_turn.specs.declared.passes.Passes.{Passes}
use Rattle.gate_senders.specs.Kept.{account}
use Rattle.gate_senders.specs.Told.{told_by}
use Rattle.gate_senders.specs.declared.kept.Kept.{Kept}
use Rattle.gate_senders.specs.declared.gate.Gate.{Gate}

module _ {J : Type 0} {G : Ghosts J} where
  -- what its outbox said of itself as it was made
  abbrev pub opening_of : Gate J G → Account
  opening_of gate = told_by (opened_with gate.lock)

  -- for how many senders it was made
  abbrev pub senders_of : Gate J G → ℕ
  senders_of gate = gate.senders

  -- the pass was made with the gate
  abbrev pub IsPassAt : Gate J G → Pass (Kept J G) → Type 0
  IsPassAt gate p = IsPassOf gate.lock p

  -- and it is that of a sender
  pub record IsSenderAt (gate : Gate J G) (p : Pass (Kept J G)) : Type 0 where
    pub own : IsPassAt gate p
    pub sender : (known p).number ≤ senders_of gate

  -- it was made round this outbox, which holds the opening history
  pub record OpensOn (gate : Gate J G) (box : Outbox J G) : Type 0 where
    pub told : opening_of gate ≡ account box (opening_of gate).history []
    pub holds : ∥ HoldsBox box (opening_of gate).history [] ∥₁

  -- these are the passes that it was made with, so many
  abbrev pub MadeAt : Gate J G → Passes (Kept J G) → ℕ → Type 0
  MadeAt gate passes made = MadeWith gate.lock passes made (opening_of gate)

  -- the list has the pass of number n, which is one of the gate's and is free
  abbrev pub HasBackAt : Gate J G → Passes (Kept J G) → ℕ → Type 0
  HasBackAt gate passes n = HasBack gate.lock passes n

  -- all of its passes are back
  abbrev pub AllBackAt : Gate J G → Passes (Kept J G) → Type 0
  AllBackAt gate passes = AllBack gate.lock passes

  -- the outbox that comes out holds a history that fits what each pass knows: a stop leaves it, with a beginning of what was refused
  -- behind it, and nothing was refused unless it is broken
  pub record ClosedWith (gate : Gate J G) (passes : Passes (Kept J G)) (box : Outbox J G) : Type 0 where
    pub history : History
    pub refused : List OutboxRecord
    pub holds : ∥ HoldsBox box history refused ∥₁
    pub whole : is_broken box ≡ false → refused ≡ []
    pub closed : Closed (known_at passes) (known_at passes 1).made (opening_of gate) (account box history refused)
