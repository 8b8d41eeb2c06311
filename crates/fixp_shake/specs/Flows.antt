-- The kinds of flow (FIXP 1.1, FlowType).
use Rattle.std.specs.Prelude.{Bool, true, false, ◌||◌}
use Rattle.fixp_msgs.specs.declared.flow.Flow.{Flow}
use Rattle.fixp_msgs.specs.declared.flow.Flow.TheVariants as flows

-- exactly once, in order: what was lost is sent again
abbrev pub is_recoverable : Flow → Bool
is_recoverable flows.Recoverable = true
is_recoverable flows.Idempotent = false
is_recoverable flows.Unsequenced = false
is_recoverable flows.None = false

-- at most once: what was lost is told, and not sent again
abbrev pub is_idempotent : Flow → Bool
is_idempotent flows.Recoverable = false
is_idempotent flows.Idempotent = true
is_idempotent flows.Unsequenced = false
is_idempotent flows.None = false

-- the messages have numbers, which are announced
abbrev pub is_sequenced : Flow → Bool
is_sequenced flow = is_recoverable flow || is_idempotent flow

-- no application message goes in this direction
abbrev pub is_absent : Flow → Bool
is_absent flows.Recoverable = false
is_absent flows.Idempotent = false
is_absent flows.Unsequenced = false
is_absent flows.None = true
