-- What a run gives OUT, and what its outcome says of the script (this project's profile).
use Rattle.std.specs.Prelude.{◌≡◌, ℕ, codes, List, Option, Result, Err, IsOk}
use Rattle.std.specs.Io.KnownBytes.{Appends, Keeps}
use Rattle.gw_outside.specs.Faults.{TakesFront}
use Rattle.schema_toml.specs.declared.fault.ConfigFault.{ConfigFault}
use Rattle.cmd_datagram.specs.declared.script.Script.{Script}
use Rattle.cmd_datagram.specs.declared.outcome.Outcome.{Outcome}
use Rattle.cmd_datagram.specs.declared.outcome.Outcome.TheVariants as outcomes
use Rattle.cmd_datagram.specs.Lines.{script_lines}

-- the number of an outcome, and its name
abbrev pub code_of : Outcome → ℕ
code_of outcomes.Done = 0
code_of (outcomes.Config fault) = 2
code_of outcomes.InputFault = 3
code_of outcomes.OutputFault = 4
code_of outcomes.Memory = 14

abbrev pub name_of : Outcome → List ℕ
name_of outcomes.Done = codes "done"
name_of (outcomes.Config fault) = codes "config"
name_of outcomes.InputFault = codes "input-fault"
name_of outcomes.OutputFault = codes "output-fault"
name_of outcomes.Memory = codes "memory"

-- the text is refused with its fault exactly where it has one, unless a device or memory failed before
abbrev pub Judges : Outcome → Result Script ConfigFault → Type 0
Judges (outcomes.Config fault) told = told ≡ Err fault
Judges outcomes.Done told = IsOk told
Judges outcomes.OutputFault told = IsOk told
Judges outcomes.InputFault told = Unit {0}
Judges outcomes.Memory told = Unit {0}

-- OUT gained the lines of the script; a front of them, maybe nothing, where OUT or memory failed; and else nothing
abbrev pub Gave : Script → Option (List ℕ) → Option (List ℕ) → Outcome → Type 0
Gave script before after outcomes.Done = Appends before after (script_lines script)
Gave script before after outcomes.OutputFault = TakesFront before after (script_lines script)
Gave script before after outcomes.Memory = TakesFront before after (script_lines script)
Gave script before after (outcomes.Config fault) = Keeps before after
Gave script before after outcomes.InputFault = Keeps before after

-- the outcomes of a text that gives no script
abbrev pub IsRefusal : Outcome → Type 0
IsRefusal (outcomes.Config fault) = Unit {0}
IsRefusal outcomes.InputFault = Unit {0}
IsRefusal outcomes.Memory = Unit {0}
IsRefusal outcomes.Done = ⊥
IsRefusal outcomes.OutputFault = ⊥

-- the outcomes of a script that was read
abbrev pub IsEnd : Outcome → Type 0
IsEnd (outcomes.Config fault) = ⊥
IsEnd outcomes.InputFault = ⊥
IsEnd outcomes.Done = Unit {0}
IsEnd outcomes.OutputFault = Unit {0}
IsEnd outcomes.Memory = Unit {0}
