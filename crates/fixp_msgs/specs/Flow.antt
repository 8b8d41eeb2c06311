-- The wire numbers of the kinds of flow (this project's profile).
use Rattle.std.specs.Prelude.{ℕ}
use Rattle.fixp_msgs.specs.declared.flow.Flow.{Flow}
use Rattle.fixp_msgs.specs.declared.flow.Flow.TheVariants as flows

abbrev pub flow_code : Flow → ℕ
flow_code flows.Recoverable = 1
flow_code flows.Idempotent = 2
flow_code flows.Unsequenced = 3
flow_code flows.None = 4
