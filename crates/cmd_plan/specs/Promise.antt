-- What a run gives OUT (this project's profile).
use Rattle.std.specs.Prelude.{ℕ, List, Option}
use Rattle.std.specs.Io.KnownBytes.{Keeps}
use Rattle.text_words.specs.Lines.{lines_in}
use Rattle.sbe_layout.specs.declared.plan.Plan.{Plan}
use Rattle.plan_lines.specs.declared.form.Form.{Form}
use Rattle.plan_lines.specs.declared.end.Wrong.{Wrong}
use Rattle.plan_lines.specs.declared.end.PlanEnd.{PlanEnd}
use Rattle.plan_lines.specs.declared.end.PlanEnd.TheVariants as ends
use Rattle.plan_lines.specs.Planned as planned
use Rattle.cmd_by_schema.specs.declared.outcome.Outcome.{Outcome}
use Rattle.cmd_by_schema.specs.declared.outcome.Outcome.TheVariants as outcomes
use Rattle.cmd_by_schema.specs.declared.outcome.Text.TheVariants.{Schema, Lines}

-- how the reading of a text ends a run
abbrev pub outcome_of : PlanEnd → Outcome Wrong
outcome_of ends.Done = outcomes.Done
outcome_of ends.Input = outcomes.InputFault Lines
outcome_of ends.Output = outcomes.OutputFault
outcome_of (ends.Refused line wrong) = outcomes.Refused line wrong
outcome_of ends.Memory = outcomes.Memory

-- OUT gained the lines that TEXT makes, as far as the outcome tells, and nothing where there is no schema
abbrev pub Gave : Plan → Form → List ℕ → Option (List ℕ) → Option (List ℕ) → Outcome Wrong → Type 0
Gave plan form text before after outcomes.Done = planned.GaveAll plan form (lines_in text) before after
Gave plan form text before after (outcomes.Refused line wrong) = planned.GaveRefused plan form (lines_in text) line wrong before after
Gave plan form text before after (outcomes.InputFault Lines) = planned.GaveFirst plan form (lines_in text) before after
Gave plan form text before after (outcomes.InputFault Schema) = Keeps before after
Gave plan form text before after outcomes.OutputFault = planned.GaveFront plan form (lines_in text) before after
Gave plan form text before after outcomes.Memory = planned.GaveFirst plan form (lines_in text) before after
Gave plan form text before after (outcomes.Config fault) = Keeps before after
