-- What a comparison of two schemas gives, and what its outcome says of both texts (this project's profile).
use Rattle.std.specs.Prelude.{◌≡◌, ℕ, List, codes, Option, Result, Ok, Err, IsOk}
use Rattle.std.specs.Io.KnownBytes.{Appends, Keeps}
use Rattle.gw_outside.specs.Faults.{TakesFront}
use Rattle.schema_types.specs.declared.schema.Schema.{Schema}
use Rattle.schema_toml.specs.declared.fault.ConfigFault.{ConfigFault}
use Rattle.sbe_skew.specs.Extends.{Extends}
use Rattle.cmd_extends.specs.declared.outcome.Outcome.{Outcome}
use Rattle.cmd_extends.specs.declared.outcome.Outcome.TheVariants as outcomes
use Rattle.cmd_extends.specs.declared.outcome.Text.{Text}
use Rattle.cmd_extends.specs.declared.outcome.Text.TheVariants.{Newer, Older}
use Rattle.cmd_extends.specs.Answer.{DiffersAt, IsAnswer, extends_line, differs_line}

-- the numbers and the words of outcomes, which are those of every command
abbrev pub code_of : Outcome → ℕ
code_of outcomes.Extends = 0
code_of (outcomes.Config text fault) = 2
code_of (outcomes.InputFault text) = 3
code_of outcomes.OutputFault = 4
code_of (outcomes.Differs path) = 12
code_of outcomes.Memory = 14

abbrev pub name_of : Outcome → List ℕ
name_of outcomes.Extends = codes "done"
name_of (outcomes.Config text fault) = codes "config"
name_of (outcomes.InputFault text) = codes "input-fault"
name_of outcomes.OutputFault = codes "output-fault"
name_of (outcomes.Differs path) = codes "message"
name_of outcomes.Memory = codes "memory"

-- a text is refused with its fault exactly where it has one, NEW before OLD, unless a device or memory failed before
abbrev pub Judges : Outcome → Result Schema ConfigFault → Result Schema ConfigFault → Type 0
Judges (outcomes.Config Newer fault) newer older = newer ≡ Err fault
Judges (outcomes.Config Older fault) newer older = IsOk newer × (older ≡ Err fault)
Judges outcomes.Extends newer older = IsOk newer × IsOk older
Judges (outcomes.Differs path) newer older = IsOk newer × IsOk older
Judges outcomes.OutputFault newer older = IsOk newer × IsOk older
Judges (outcomes.InputFault Newer) newer older = Unit {0}
Judges (outcomes.InputFault Older) newer older = IsOk newer
Judges outcomes.Memory newer older = Unit {0}

-- OUT gained the line of the answer that the outcome tells, a front of the answer's where it failed, and else nothing
abbrev pub Gave : Schema → Schema → Option (List ℕ) → Option (List ℕ) → Outcome → Type 0
Gave newer older before after outcomes.Extends = Extends newer older × Appends before after extends_line
Gave newer older before after (outcomes.Differs path) = DiffersAt newer older path × Appends before after (differs_line path)
Gave newer older before after outcomes.OutputFault = (line : List ℕ) × IsAnswer newer older line × TakesFront before after line
Gave newer older before after _ = Keeps before after

-- the outcomes behind which OUT is the very device that was given
abbrev pub LeavesOut : Outcome → Type 0
LeavesOut (outcomes.Config text fault) = Unit {0}
LeavesOut (outcomes.InputFault text) = Unit {0}
LeavesOut outcomes.Memory = Unit {0}
LeavesOut _ = ⊥

-- the outcomes behind which OLD is the very device that was given: NEW was refused, or could not be read
abbrev pub StopsAtNewer : Outcome → Type 0
StopsAtNewer (outcomes.Config Newer fault) = Unit {0}
StopsAtNewer (outcomes.InputFault Newer) = Unit {0}
StopsAtNewer _ = ⊥

-- the outcomes of a text that gives no schema, and what they say of it
abbrev pub IsRefusal : Text → Outcome → Type 0
IsRefusal text (outcomes.Config other fault) = other ≡ text
IsRefusal text (outcomes.InputFault other) = other ≡ text
IsRefusal text outcomes.Memory = Unit {0}
IsRefusal text _ = ⊥

abbrev pub Refuses : Outcome → Result Schema ConfigFault → Type 0
Refuses (outcomes.Config text fault) told = told ≡ Err fault
Refuses outcomes.Memory told = Unit {0}
Refuses (outcomes.InputFault text) told = Unit {0}
Refuses _ told = ⊥

-- the outcomes of a comparison
abbrev pub IsEnd : Outcome → Type 0
IsEnd (outcomes.Config text fault) = ⊥
IsEnd (outcomes.InputFault text) = ⊥
IsEnd _ = Unit {0}
