-- What is read from a table: a value, or the first fault in the order in which its keys are visited.
use Rattle.std.specs.Prelude.{◌≡◌, Bool, true, false, List, [], ◌∷◌, Result, Ok, Err}
use Rattle.sbe_value.specs.declared.path.Step.{Step}
use Rattle.toml_walk.specs.declared.fault.TomlFault.{TomlFault}
use Rattle.toml_walk.specs.declared.fault.TomlFault.TheVariants.{Text, Missing, WrongKind, UnknownKey, Range, Memory}

abbrev pub Read : Type 0 → Type 0
Read A = Result A TomlFault

-- one reading behind another
infixl 10 ◌>>=◌
abbrev pub ◌>>=◌ : {A B : Type 0} → Read A → (A → Read B) → Read B
Ok a >>= next = next a
Err fault >>= next = Err fault

-- a fault inside of what stands one step further
abbrev pub deepened : Step → TomlFault → TomlFault
deepened step (Missing path) = Missing (step ∷ path)
deepened step (WrongKind path) = WrongKind (step ∷ path)
deepened step (UnknownKey path) = UnknownKey (step ∷ path)
deepened step (Range path) = Range (step ∷ path)
deepened step Text = Text
deepened step Memory = Memory

abbrev pub under : {A : Type 0} → Step → Read A → Read A
under step (Ok a) = Ok a
under step (Err fault) = Err (deepened step fault)

abbrev pub is_memory : TomlFault → Bool
is_memory Memory = true
is_memory Text = false
is_memory (Missing path) = false
is_memory (WrongKind path) = false
is_memory (UnknownKey path) = false
is_memory (Range path) = false

-- a fault is the expected one, unless memory ran out
abbrev pub IsFault : TomlFault → TomlFault → Type 0
IsFault fault expected = is_memory fault ≡ false → expected ≡ fault

-- a result is the expected one, unless memory ran out
abbrev pub Reads : {A : Type 0} → Result A TomlFault → Read A → Type 0
Reads (Ok a) expected = expected ≡ Ok a
Reads (Err fault) expected = is_memory fault ≡ false → expected ≡ Err fault
