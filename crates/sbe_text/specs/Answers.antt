-- How what a reader of the code answers is tied to what the definitions read.
use Rattle.std.specs.Prelude.{◌≡◌, ⊤, ℕ, Result, Ok, Err, length}
use Rattle.sbe_value.specs.declared.tree.Block.{Block}
use Rattle.sbe_value.specs.declared.message.Message.{Message}
use Rattle.sbe_grammar.specs.Reading.{Entry}
use Rattle.text_words.specs.Lines.{lines_in}
use Rattle.sbe_text.specs.declared.error.Refusal.{Refusal}
use Rattle.sbe_text.specs.declared.error.Refusal.TheVariants as refusal
use Rattle.sbe_text.specs.declared.error.TextError.{TextError}
use Rattle.sbe_text.specs.declared.error.TextError.TheVariants.{Line, Memory}

-- the lines of the text that is left at the line that is refused are as many as is told; nothing is said where memory ran out
abbrev pub Fails : {B : Type 0} → Refusal → Result B ℕ → Type 0
Fails (refusal.At left) told = told ≡ Err (length (lines_in left.now))
Fails refusal.Memory told = ⊤

-- what is answered, seen by `view`, is what is told, unless memory ran out
abbrev pub Gives : {A B : Type 0} → (A → B) → Result A Refusal → Result B ℕ → Type 0
Gives view (Ok x) told = told ≡ Ok (view x)
Gives view (Err e) told = Fails e told

-- the same of the number of the line that is refused
abbrev pub Tells : Result Message TextError → Result Message ℕ → Type 0
Tells (Ok m) told = told ≡ Ok m
Tells (Err (Line n)) told = told ≡ Err n
Tells (Err Memory) told = ⊤

-- the line has this number; nothing is said where memory ran out
abbrev pub Numbers : TextError → ℕ → Type 0
Numbers (Line n) number = n ≡ number
Numbers Memory number = ⊤

abbrev pub entry_of : Block → Entry
entry_of b = record { items = b.items; groups = b.groups; vars = b.vars }
