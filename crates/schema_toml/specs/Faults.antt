-- Why a configuration was refused, and want of memory among the reasons.
use Rattle.std.specs.Prelude.{◌≡◌, ℕ, ◌^◌, nat_le, if◌then◌else◌, List, length, Bool, true, false, Result, Ok, Err}
use Rattle.sbe_schema.specs.declared.fault.SchemaKind.{SchemaKind}
use Rattle.sbe_schema.specs.declared.fault.SchemaKind.TheVariants as kinds
use Rattle.toml_walk.specs.declared.fault.TomlFault.{TomlFault}
use Rattle.toml_walk.specs.Reading as reading
use Rattle.schema_toml.specs.declared.fault.ConfigFault.{ConfigFault}
use Rattle.schema_toml.specs.declared.fault.ConfigFault.TheVariants.{Toml, Schema, TooLong}

abbrev is_memory_kind : SchemaKind → Bool
is_memory_kind kinds.Memory = true
is_memory_kind _ = false

abbrev pub is_memory : ConfigFault → Bool
is_memory (Toml fault) = reading.is_memory fault
is_memory (Schema fault) = is_memory_kind fault.kind
is_memory TooLong = false

-- a result is the expected one, unless memory ran out
abbrev pub Tells : {A : Type 0} → Result A ConfigFault → Result A ConfigFault → Type 0
Tells (Ok a) expected = expected ≡ Ok a
Tells (Err fault) expected = is_memory fault ≡ false → expected ≡ Err fault

-- the greatest configuration text, in bytes
abbrev pub text_limit : ℕ
text_limit = 2 ^ 20

-- what a text is read as, unless it is too long
abbrev pub limited : {A : Type 0} → (List ℕ → Result A ConfigFault) → List ℕ → Result A ConfigFault
limited reading text = if nat_le (length text) text_limit then reading text else Err TooLong

-- a fault of a text as one of a configuration
abbrev pub of_text : {A : Type 0} → Result A TomlFault → Result A ConfigFault
of_text (Ok a) = Ok a
of_text (Err fault) = Err (Toml fault)
