-- How what a writer of the code answers is tied to the bytes and the first fault of the definitions.
use Rattle.std.specs.Prelude.{◌≡◌, ⊤, ℕ, Option, Some, None, Result, Ok, Err, List, ◌++◌}
use Rattle.sbe_encode.specs.declared.fault.EncodeFault.{EncodeFault}
use Rattle.sbe_encode.specs.declared.fault.EncodeError.{EncodeError}
use Rattle.sbe_encode.specs.declared.fault.EncodeError.TheVariants.{Fault, Memory}

-- the fault is the one that is told; nothing is said where memory ran out
abbrev pub Tells : EncodeError → Option EncodeFault → Type 0
Tells (Fault f) told = told ≡ Some f
Tells Memory told = ⊤

-- there is no fault, and the bytes stand behind what was written
pub record Appends (before after bytes : List ℕ) (told : Option EncodeFault) : Type 0 where
  pub faultless : told ≡ None
  pub appended : after ≡ before ++ bytes

abbrev pub Writes : {A : Type 0} → Result A EncodeError → List ℕ → List ℕ → List ℕ → Option EncodeFault → Type 0
Writes (Ok done) before after bytes told = Appends before after bytes told
Writes (Err e) before after bytes told = Tells e told
