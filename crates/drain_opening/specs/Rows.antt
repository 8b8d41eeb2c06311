-- The handshake of two ends whose session was negotiated before, computed.
use Rattle.std.specs.Prelude.{◌≡◌, ℕ, true, List, [], ◌∷◌}
use Rattle.fixp_shake.specs.Phases.{is_shaken}
use Rattle.honest_ends.specs.Worlds.{World, Step, meets, acceptor_reads, initiator_reads, after, world_after}
use Rattle.honest_ends.specs.PhaseSamples.{beginning}
use Rattle.drain_opening.specs.Opening.{AllInTime, reads_in}

-- they begin a connection, the acceptor reads the Establish, and the initiator the acknowledgement
abbrev pub begun : World
begun = after beginning (meets 0 0)

abbrev pub handshake : List Step
handshake = acceptor_reads 0 1 ∷ initiator_reads 0 1 ∷ []

abbrev pub shaken : World
shaken = world_after begun handshake

-- so many messages are read, and each knows the other's interval then
pub record OpeningSample (count : ℕ) : Type 0 where
  pub timely : AllInTime begun handshake
  pub reads : reads_in begun handshake ≡ count
  pub done : is_shaken shaken.initiator.facts.connection.phase ≡ true
  pub of_initiator : shaken.acceptor.facts.connection.peer_interval ≡ begun.initiator.config.keepalive
  pub of_acceptor : shaken.initiator.facts.connection.peer_interval ≡ begun.acceptor.config.keepalive
