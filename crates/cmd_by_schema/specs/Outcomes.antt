-- What an outcome says of the schema, its number and its word (this project's profile).
use Rattle.std.specs.Prelude.{◌≡◌, ⊤, ℕ, List, codes, Result, Err, IsOk}
use Rattle.schema_toml.specs.declared.fault.ConfigFault.{ConfigFault}
use Rattle.sbe_layout.specs.declared.plan.Plan.{Plan}
use Rattle.cmd_by_schema.specs.declared.outcome.Outcome.{Outcome}
use Rattle.cmd_by_schema.specs.declared.outcome.Outcome.TheVariants as outcomes
use Rattle.cmd_by_schema.specs.declared.outcome.Text.TheVariants.{Schema, Lines}

-- the numbers and the words of outcomes, which are those of every command
abbrev pub code_of : {W : Type 0} → Outcome W → ℕ
code_of outcomes.Done = 0
code_of (outcomes.Config fault) = 2
code_of (outcomes.InputFault text) = 3
code_of outcomes.OutputFault = 4
code_of (outcomes.Refused line wrong) = 12
code_of outcomes.Memory = 14

abbrev pub name_of : {W : Type 0} → Outcome W → List ℕ
name_of outcomes.Done = codes "done"
name_of (outcomes.Config fault) = codes "config"
name_of (outcomes.InputFault text) = codes "input-fault"
name_of outcomes.OutputFault = codes "output-fault"
name_of (outcomes.Refused line wrong) = codes "message"
name_of outcomes.Memory = codes "memory"

-- SCHEMA is refused with its fault exactly where it has one, unless a device or memory failed before
abbrev pub Judges : {W : Type 0} → Outcome W → Result Plan ConfigFault → Type 0
Judges (outcomes.Config fault) schema = schema ≡ Err fault
Judges outcomes.Done schema = IsOk schema
Judges (outcomes.Refused line wrong) schema = IsOk schema
Judges outcomes.OutputFault schema = IsOk schema
Judges (outcomes.InputFault Lines) schema = IsOk schema
Judges (outcomes.InputFault Schema) schema = ⊤
Judges outcomes.Memory schema = ⊤

-- the outcomes of a text that gives no schema: what is behind it is as it was
abbrev pub StopsAtSchema : {W : Type 0} → Outcome W → Type 0
StopsAtSchema (outcomes.Config fault) = ⊤
StopsAtSchema (outcomes.InputFault Schema) = ⊤
StopsAtSchema _ = ⊥

-- the outcomes of a schema that was not read
abbrev pub IsRefusal : {W : Type 0} → Outcome W → Type 0
IsRefusal (outcomes.Config fault) = ⊤
IsRefusal (outcomes.InputFault Schema) = ⊤
IsRefusal outcomes.Memory = ⊤
IsRefusal _ = ⊥
