use Rattle.std.proofs.Common.{◌≡◌, ◌++◌, drop}
use Rattle.sbe_json.specs.Fields.{tokens_of_items}
use Rattle.sbe_json.proofs.fields.write_items.Given as goal

-- what is written, followed by the members that are left, is all
abbrev pub invariant-loop-plan : goal.invariant-loop-plan
invariant-loop-plan l = record {
  before : l.writer.before ≡ l.initial.writer.before;
  tokens : l.writer.tokens ++ tokens_of_items l.listings l.left (drop l.plan-index l.plans) ≡ l.initial.writer.tokens ++ tokens_of_items l.listings l.items l.plans;
}
