-- What a run gives OUT (this project's profile).
use Rattle.std.specs.Prelude.{ℕ, List, Option}
use Rattle.std.specs.Io.KnownBytes.{Keeps}
use Rattle.text_words.specs.Lines.{lines_in}
use Rattle.sbe_layout.specs.declared.plan.Plan.{Plan}
use Rattle.conn_told.specs.declared.end.Wrong.{Wrong}
use Rattle.conn_told.specs.declared.end.ToldEnd.{ToldEnd}
use Rattle.conn_told.specs.declared.end.ToldEnd.TheVariants as ends
use Rattle.conn_told.specs.Told as told
use Rattle.cmd_by_schema.specs.declared.outcome.Outcome.{Outcome}
use Rattle.cmd_by_schema.specs.declared.outcome.Outcome.TheVariants as outcomes
use Rattle.cmd_by_schema.specs.declared.outcome.Text.TheVariants.{Schema, Lines}

-- how the telling of lines ends a run
abbrev pub outcome_of : ToldEnd → Outcome Wrong
outcome_of ends.Done = outcomes.Done
outcome_of ends.Input = outcomes.InputFault Lines
outcome_of ends.Output = outcomes.OutputFault
outcome_of (ends.Refused line wrong) = outcomes.Refused line wrong
outcome_of ends.Memory = outcomes.Memory

-- OUT gained what the lines say, as far as the outcome tells, and nothing where there is no schema
abbrev pub Gave : Plan → List ℕ → Option (List ℕ) → Option (List ℕ) → Outcome Wrong → Type 0
Gave plan text before after outcomes.Done = told.GaveAll plan (lines_in text) before after
Gave plan text before after (outcomes.Refused line wrong) = told.GaveRefused plan (lines_in text) line wrong before after
Gave plan text before after (outcomes.InputFault Lines) = told.GaveFirst plan (lines_in text) before after
Gave plan text before after (outcomes.InputFault Schema) = Keeps before after
Gave plan text before after outcomes.OutputFault = told.GaveFront plan (lines_in text) before after
Gave plan text before after outcomes.Memory = told.GaveFirst plan (lines_in text) before after
Gave plan text before after (outcomes.Config fault) = Keeps before after
