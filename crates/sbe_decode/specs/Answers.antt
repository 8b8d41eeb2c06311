-- How what a reader of the code answers is tied to what the grammar's reading gives.
use Rattle.std.specs.Prelude.{◌≡◌, ⊤, Result, Ok, Err}
use Rattle.sbe_grammar.specs.declared.fault.DecodeFault.{DecodeFault}
use Rattle.sbe_decode.specs.declared.error.DecodeError.{DecodeError}
use Rattle.sbe_decode.specs.declared.error.DecodeError.TheVariants.{Fault, Memory}

-- the fault is the one that is told; nothing is said where memory ran out
abbrev pub Fails : {B : Type 0} → DecodeError → Result B DecodeFault → Type 0
Fails (Fault f) told = told ≡ Err f
Fails Memory told = ⊤

-- what is answered, seen by `view`, is what is told, unless memory ran out
abbrev pub Gives : {A B : Type 0} → (A → B) → Result A DecodeError → Result B DecodeFault → Type 0
Gives view (Ok x) told = told ≡ Ok (view x)
Gives view (Err e) told = Fails e told

-- what is answered, seen by `view`, is what is told
abbrev pub Tells : {A B : Type 0} → (A → B) → Result A DecodeFault → Result B DecodeFault → Type 0
Tells view (Ok x) told = told ≡ Ok (view x)
Tells view (Err f) told = told ≡ Err f

-- what is answered is what is told, unless memory ran out
abbrev pub Answers : {A : Type 0} → Result A DecodeError → Result A DecodeFault → Type 0
Answers answer told = Gives (λ x. x) answer told
