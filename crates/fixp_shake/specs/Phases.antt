-- The phases of a connection (FIXP 1.1, "Session lifecycle").
use Rattle.std.specs.Prelude.{Bool, true, false, ◌||◌}
use Rattle.fixp_shake.specs.declared.phase.Phase.{Phase}
use Rattle.fixp_shake.specs.declared.phase.Phase.TheVariants.{Idle, Negotiating, Establishing, Established, Closing, Ended}

abbrev pub is_idle : Phase → Bool
is_idle Idle = true
is_idle Negotiating = false
is_idle Establishing = false
is_idle Established = false
is_idle Closing = false
is_idle Ended = false

abbrev pub is_negotiating : Phase → Bool
is_negotiating Idle = false
is_negotiating Negotiating = true
is_negotiating Establishing = false
is_negotiating Established = false
is_negotiating Closing = false
is_negotiating Ended = false

abbrev pub is_establishing : Phase → Bool
is_establishing Idle = false
is_establishing Negotiating = false
is_establishing Establishing = true
is_establishing Established = false
is_establishing Closing = false
is_establishing Ended = false

abbrev pub is_established : Phase → Bool
is_established Idle = false
is_established Negotiating = false
is_established Establishing = false
is_established Established = true
is_established Closing = false
is_established Ended = false

abbrev pub is_closing : Phase → Bool
is_closing Idle = false
is_closing Negotiating = false
is_closing Establishing = false
is_closing Established = false
is_closing Closing = true
is_closing Ended = false

-- the handshake is done: the connection is established, or was before this end began to close it
abbrev pub is_shaken : Phase → Bool
is_shaken phase = is_established phase || is_closing phase
