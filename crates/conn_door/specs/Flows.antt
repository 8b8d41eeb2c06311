-- Whether messages of a flow may stand in the outbox before a connection does (this project's profile).
use Rattle.std.specs.Prelude.{Bool, true, false}
use Rattle.fixp_msgs.specs.declared.flow.Flow.{Flow}
use Rattle.fixp_msgs.specs.declared.flow.Flow.TheVariants as flows

-- what is lost on the way is sent again, or nothing goes in this direction
abbrev pub is_sent_again : Flow → Bool
is_sent_again flows.Recoverable = true
is_sent_again flows.Idempotent = false
is_sent_again flows.Unsequenced = false
is_sent_again flows.None = true
