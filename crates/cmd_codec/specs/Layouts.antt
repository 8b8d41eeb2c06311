-- What `check` gives: the lines of the layout of a schema.
use Rattle.std.specs.Prelude.{ℕ, List, Option, Result, Ok, Err}
use Rattle.std.specs.Io.KnownBytes.{Appends, Keeps}
use Rattle.gw_outside.specs.Faults.{TakesFront}
use Rattle.sbe_layout.specs.declared.plan.Plan.{Plan}
use Rattle.layout_text.specs.Lines.{lines_of_messages}
use Rattle.schema_toml.specs.declared.fault.ConfigFault.{ConfigFault}
use Rattle.cmd_base.specs.declared.status.Status.{Status}
use Rattle.cmd_base.specs.declared.status.Status.TheVariants.{Done, InputFault, OutputFault, Memory}

-- OUT gained all of the lines at status 0, and a front of them where OUT or memory failed
abbrev pub GaveLines : List ℕ → Option (List ℕ) → Option (List ℕ) → Status → Type 0
GaveLines lines before after Done = Appends before after lines
GaveLines lines before after OutputFault = TakesFront before after lines
GaveLines lines before after Memory = TakesFront before after lines
GaveLines lines before after InputFault = Keeps before after
GaveLines lines before after _ = ⊥

-- the statuses of printing
abbrev pub IsPrintEnd : Status → Type 0
IsPrintEnd Done = Unit {0}
IsPrintEnd OutputFault = Unit {0}
IsPrintEnd Memory = Unit {0}
IsPrintEnd _ = ⊥

-- what is given by a run whose schema is laid out so, or refused
abbrev pub GaveLayout : Result Plan ConfigFault → Option (List ℕ) → Option (List ℕ) → Status → Type 0
GaveLayout (Err fault) before after status = Keeps before after
GaveLayout (Ok plan) before after status = GaveLines (lines_of_messages plan.messages) before after status
