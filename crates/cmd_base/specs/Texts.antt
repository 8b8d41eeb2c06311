-- What is read of CONFIG, and what a status says of it.
use Rattle.std.specs.Prelude.{◌≡◌, ℕ, ◌^◌, ◌≤◌, List, length, Option, Result, Err, IsOk}
use Rattle.std.specs.Io.KnownBytes.{Consumes}
use Rattle.schema_toml.specs.declared.fault.ConfigFault.{ConfigFault}
use Rattle.cmd_base.specs.declared.status.Status.{Status}
use Rattle.cmd_base.specs.declared.status.Status.TheVariants.{Done, Config, InputFault, OutputFault, Message, Memory}

-- the most bytes of a text in INPUT
abbrev pub input_limit : ℕ
input_limit = 2 ^ 26

-- at most so many bytes of a source were read
pub record ReadsWithin (old new : Option (List ℕ)) (limit : ℕ) : Type 0 where
  pub bytes : List ℕ
  pub within : length bytes ≤ limit
  pub consumed : Consumes old new bytes

-- the statuses of a configuration that was not read: it is refused for its fault, or a device or memory failed
abbrev pub Refuses : {A : Type 0} → Status → Result A ConfigFault → Type 0
Refuses (Config fault) told = told ≡ Err fault
Refuses InputFault told = Unit {0}
Refuses Memory told = Unit {0}
Refuses _ told = ⊥

abbrev pub IsUnconfigured : Status → Type 0
IsUnconfigured (Config fault) = Unit {0}
IsUnconfigured InputFault = Unit {0}
IsUnconfigured Memory = Unit {0}
IsUnconfigured _ = ⊥

-- what the status of a command that reads CONFIG says of it: it is refused with its fault exactly where it has one, unless a
-- device or memory failed before
abbrev pub Judges : {A : Type 0} → Status → Result A ConfigFault → Type 0
Judges (Config fault) told = told ≡ Err fault
Judges Done told = IsOk told
Judges (Message bad) told = IsOk told
Judges OutputFault told = IsOk told
Judges InputFault told = Unit {0}
Judges Memory told = Unit {0}
Judges _ told = ⊥
