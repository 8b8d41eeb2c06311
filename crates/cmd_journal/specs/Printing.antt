-- How far the lines of `journal` were written.
use Rattle.std.specs.Prelude.{◌≡◌, ℕ, List, ◌++◌, Option}
use Rattle.std.specs.Io.KnownBytes.{Appends}
use Rattle.gw_outside.specs.Faults.{TakesFront}

-- this text was written: some of it was pushed to an output that told this before, and the rest is held
pub record Wrote (before : Option (List ℕ)) (text : List ℕ) (now : Option (List ℕ)) (held : List ℕ) : Type 0 where
  pub pushed : List ℕ
  pub joins : text ≡ pushed ++ held
  pub gained : Appends before now pushed

-- whatever was written before, this text more was written, or a front of both was pushed
abbrev pub WritesMore : (old new : Option (List ℕ)) → (held now_held more : List ℕ) → Type 0
WritesMore old new held now_held more = (before : Option (List ℕ)) (text : List ℕ) → Wrote before text old held → Wrote before (text ++ more) new now_held

abbrev pub WritesFront : (old new : Option (List ℕ)) → (held more : List ℕ) → Type 0
WritesFront old new held more = (before : Option (List ℕ)) (text : List ℕ) → Wrote before text old held → TakesFront before new (text ++ more)
