-- The schema that a configuration text spells and the plan of its messages, or why there is none (this project's profile).
use Rattle.std.specs.Prelude.{ℕ, Option, Some, None, List, Result, Ok, Err}
use Rattle.schema_types.specs.declared.schema.Schema.{Schema}
use Rattle.sbe_schema.specs.declared.fault.SchemaFault.{SchemaFault}
use Rattle.sbe_schema.specs.Checked.{fault_of}
use Rattle.sbe_schema.specs.declared.checked.Checked.{Checked}
use Rattle.sbe_layout.specs.declared.plan.Plan.{Plan}
use Rattle.sbe_layout.specs.Plans.{plan_of}
use Rattle.toml_walk.specs.Reading.{Read}
use Rattle.schema_toml.specs.declared.fault.ConfigFault.{ConfigFault}
use Rattle.schema_toml.specs.declared.fault.ConfigFault.TheVariants as faults
use Rattle.schema_toml.specs.Faults.{limited}
use Rattle.schema_toml.specs.Text.{schema_of_text}

-- a schema, if it breaks no rule
abbrev pub schema_unless : Schema → Option SchemaFault → Result Schema ConfigFault
schema_unless schema None = Ok schema
schema_unless schema (Some fault) = Err (faults.Schema fault)

-- what was read, if it is a schema that breaks no rule
abbrev pub schema_of_read : Read Schema → Result Schema ConfigFault
schema_of_read (Ok schema) = schema_unless schema (fault_of schema)
schema_of_read (Err fault) = Err (faults.Toml fault)

-- the schema of a text, checked
abbrev pub checked_of_text : List ℕ → Result Schema ConfigFault
checked_of_text = limited (λ text. schema_of_read (schema_of_text text))

-- a result, with what it gives seen by a function
abbrev pub seen_by : {A B : Type 0} → (A → B) → Result A ConfigFault → Result B ConfigFault
seen_by f (Ok a) = Ok (f a)
seen_by f (Err fault) = Err fault

-- the schema that a checked one is, and its plan
abbrev pub schema_in : Checked → Schema
schema_in checked = checked.schema

abbrev pub plan_in : Checked → Plan
plan_in checked = plan_of checked.schema

-- a schema's plan, if it breaks no rule
abbrev pub plan_unless : Schema → Option SchemaFault → Result Plan ConfigFault
plan_unless schema None = Ok (plan_of schema)
plan_unless schema (Some fault) = Err (faults.Schema fault)

-- the plan of what was read, if it is a schema
abbrev pub plan_of_read : Read Schema → Result Plan ConfigFault
plan_of_read (Ok schema) = plan_unless schema (fault_of schema)
plan_of_read (Err fault) = Err (faults.Toml fault)

abbrev pub plan_of_text : List ℕ → Result Plan ConfigFault
plan_of_text = limited (λ text. plan_of_read (schema_of_text text))
