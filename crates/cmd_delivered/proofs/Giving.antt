-- What OUT gained from its beginning on.
use Rattle.std.proofs.Common.{◌≡◌, ◌≤◌, ℕ, List, [], Option, Result, Ok, refl, sym, subst, ◌∙◌, arith}
use Rattle.std.specs.Io.KnownBytes.{Appends}
use Rattle.std.proofs.KnownBytes.{Appends-trans}
use Rattle.gw_outside.specs.Faults.{TakesFront}
use Rattle.gw_lines.proofs.Streams.{front_behind}
use Rattle.text_words.specs.Lines.{lines_in}
use Rattle.schema_toml.specs.declared.fault.ConfigFault.{ConfigFault}
use Rattle.sbe_layout.specs.declared.plan.Plan.{Plan}
use Rattle.conn_told.specs.declared.end.ToldEnd.{ToldEnd}
use Rattle.conn_told.specs.declared.end.ToldEnd.TheVariants as ends
use Rattle.conn_told.specs.Told as told
use Rattle.conn_told.specs.declared.end.Wrong.{Wrong}
use Rattle.cmd_by_schema.specs.declared.outcome.Outcome.{Outcome}
use Rattle.cmd_delivered.specs.Promise.{Gave, outcome_of}

-- nothing was given behind the beginning, which failed
pub none_given : (plan : Plan) (lines : List ℕ) (before after : Option (List ℕ)) → Appends before after [] → told.GaveFront plan (lines_in lines) before after
none_given plan lines before after nothing = record {
  text = [];
  front = record { first = []; behind = lines_in lines; split = refl; say = record { texts = []; said = tt; joined_is = refl } };
  gave = record { count = 0; within = omega arith; appended = nothing };
}

-- what was told behind the beginning
behind : (plan : Plan) (lines : List ℕ) (before mid after : Option (List ℕ)) (end : ToldEnd) → Appends before mid [] → told.Gave plan (lines_in lines) mid after end
    → Gave plan lines before after (outcome_of end)
behind plan lines before mid after ends.Done nothing g = record { text = g.text; say = g.say; gave = Appends-trans before mid after [] g.text nothing g.gave }
behind plan lines before mid after ends.Input nothing g = record { text = g.text; front = g.front; gave = Appends-trans before mid after [] g.text nothing g.gave }
behind plan lines before mid after ends.Output nothing g = record { text = g.text; front = g.front; gave = front_behind before mid after [] g.text nothing g.gave }
behind plan lines before mid after (ends.Refused line wrong) nothing g = record { text = g.text; refused = g.refused; gave = Appends-trans before mid after [] g.text nothing g.gave }
behind plan lines before mid after ends.Memory nothing g = record { text = g.text; front = g.front; gave = Appends-trans before mid after [] g.text nothing g.gave }

-- and by the plan that the schema says
pub told_behind : (read plan : Plan) (schema : Result Plan ConfigFault) (lines : List ℕ) (before mid after : Option (List ℕ)) (end : ToldEnd) (outcome : Outcome Wrong) → schema ≡ Ok read → schema ≡ Ok plan
    → outcome ≡ outcome_of end → Appends before mid [] → told.Gave read (lines_in lines) mid after end → Gave plan lines before after outcome
told_behind read plan schema lines before mid after end outcome one other is nothing g =
    let same : read ≡ plan = cc in
    subst (λ (p : Plan). Gave p lines before after outcome) same (subst (Gave read lines before after) (sym is) (behind read lines before mid after end nothing g))
