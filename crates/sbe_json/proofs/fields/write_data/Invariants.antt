use Rattle.std.proofs.Common.{◌≡◌, ◌++◌, drop}
use Rattle.sbe_json.specs.Fields.{tokens_of_data}
use Rattle.sbe_json.proofs.fields.write_data.Given as goal

-- what is written, followed by the members that are left, is all
abbrev pub invariant-loop-plan : goal.invariant-loop-plan
invariant-loop-plan l = record {
  before : l.writer.before ≡ l.initial.writer.before;
  tokens : l.writer.tokens ++ tokens_of_data l.left (drop l.plan-index l.plans) ≡ l.initial.writer.tokens ++ tokens_of_data l.vars l.plans;
}
