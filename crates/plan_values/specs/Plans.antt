-- What a plan of a sender is seen as.
use Rattle.std.specs.Prelude.{ℕ, List}
use Rattle.plan_values.specs.declared.plan.Plan.{Plan}

-- its payloads, in order
abbrev pub payloads_of : Plan → List (List ℕ)
payloads_of plan = plan.payloads
