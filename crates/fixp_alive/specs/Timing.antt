-- The timers of a session (FIXP 1.1, keep-alive interval and heartbeats), in milliseconds. How many intervals an end waits,
-- and how long a handshake may take, are this project's profile.
use Rattle.std.specs.Prelude.{ℕ, ◌+◌, ◌*◌, Bool, nat_le}

-- how many of its peer's intervals an end waits for anything to come
abbrev pub intervals_of_silence : ℕ
intervals_of_silence = 3

-- how long a handshake may take from the connection's beginning on
abbrev pub handshake_limit : ℕ
handshake_limit = 10000

-- a heartbeat is due: nothing was sent for the own interval
abbrev pub is_due : (last_sent interval now : ℕ) → Bool
is_due last_sent interval now = nat_le (last_sent + interval) now

-- the peer is silent: nothing was received for three of its intervals
abbrev pub is_silent : (last_received interval now : ℕ) → Bool
is_silent last_received interval now = nat_le (last_received + intervals_of_silence * interval) now

-- the handshake is late: it is not done ten seconds after the connection's beginning
abbrev pub is_late : (start now : ℕ) → Bool
is_late start now = nat_le (start + handshake_limit) now
