use Rattle.std.proofs.Common.{◌≡◌, ℕ, ◌<◌, [], length, get_or}
use Rattle.plan_values.specs.Plans.{payloads_of}
use Rattle.plan_values.specs.declared.plan.Plan.{Plan}
use Rattle.plan_text.proofs.plans.empty_plans.Given as goal

abbrev pub invariant-loop-sender : goal.invariant-loop-sender
invariant-loop-sender l = record {
  many : length l.plans.items ≡ l._sender;
  empty : (i : ℕ) (d : Plan) → i < l._sender → payloads_of (get_or l.plans.items i d) ≡ [];
}
