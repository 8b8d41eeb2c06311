-- What OUT gained from its beginning on.
use Rattle.std.proofs.Common.{◌≡◌, ◌≤◌, ℕ, List, [], Option, Result, Ok, refl, sym, subst, ◌∙◌, arith}
use Rattle.std.specs.Io.KnownBytes.{Appends}
use Rattle.std.proofs.KnownBytes.{Appends-trans}
use Rattle.gw_outside.specs.Faults.{TakesFront}
use Rattle.gw_lines.proofs.Streams.{front_behind}
use Rattle.text_words.specs.Lines.{lines_in}
use Rattle.schema_toml.specs.declared.fault.ConfigFault.{ConfigFault}
use Rattle.sbe_layout.specs.declared.plan.Plan.{Plan}
use Rattle.plan_lines.specs.declared.form.Form.{Form}
use Rattle.plan_lines.specs.declared.end.PlanEnd.{PlanEnd}
use Rattle.plan_lines.specs.declared.end.PlanEnd.TheVariants as ends
use Rattle.plan_lines.specs.Lines.{lines_of}
use Rattle.plan_lines.specs.Planned as planned
use Rattle.plan_lines.specs.declared.end.Wrong.{Wrong}
use Rattle.cmd_by_schema.specs.declared.outcome.Outcome.{Outcome}
use Rattle.cmd_plan.specs.Promise.{Gave, outcome_of}

-- nothing was given behind the beginning, which failed
pub none_given : (plan : Plan) (form : Form) (text : List ℕ) (before after : Option (List ℕ)) → Appends before after [] → planned.GaveFront plan form (lines_in text) before after
none_given plan form text before after nothing = record {
  entries = [];
  behind = lines_in text;
  are = refl;
  gave = record { count = 0; within = omega arith; appended = nothing };
}

-- what was written behind the beginning
behind : (plan : Plan) (form : Form) (text : List ℕ) (before mid after : Option (List ℕ)) (end : PlanEnd) → Appends before mid [] → planned.Gave plan form (lines_in text) mid after end
    → Gave plan form text before after (outcome_of end)
behind plan form text before mid after ends.Done nothing g =
    record { entries = g.entries; are = g.are; gave = Appends-trans before mid after [] (lines_of plan form g.entries) nothing g.gave }
behind plan form text before mid after ends.Input nothing g =
    record { entries = g.entries; behind = g.behind; are = g.are; gave = Appends-trans before mid after [] (lines_of plan form g.entries) nothing g.gave }
behind plan form text before mid after ends.Output nothing g =
    record { entries = g.entries; behind = g.behind; are = g.are; gave = front_behind before mid after [] (lines_of plan form g.entries) nothing g.gave }
behind plan form text before mid after (ends.Refused line wrong) nothing g = record {
  entries = g.entries;
  behind = g.behind;
  are = g.are;
  number = g.number;
  refused = g.refused;
  line_is = g.line_is;
  gave = Appends-trans before mid after [] (lines_of plan form g.entries) nothing g.gave;
}
behind plan form text before mid after ends.Memory nothing g =
    record { entries = g.entries; behind = g.behind; are = g.are; gave = Appends-trans before mid after [] (lines_of plan form g.entries) nothing g.gave }

-- and by the plan that the schema says
pub planned_behind : (read plan : Plan) (schema : Result Plan ConfigFault) (form : Form) (text : List ℕ) (before mid after : Option (List ℕ)) (end : PlanEnd) (outcome : Outcome Wrong) → schema ≡ Ok read
    → schema ≡ Ok plan → outcome ≡ outcome_of end → Appends before mid [] → planned.Gave read form (lines_in text) mid after end → Gave plan form text before after outcome
planned_behind read plan schema form text before mid after end outcome one other is nothing g =
    let same : read ≡ plan = cc in
    subst (λ (p : Plan). Gave p form text before after outcome) same (subst (Gave read form text before after) (sym is) (behind read form text before mid after end nothing g))
