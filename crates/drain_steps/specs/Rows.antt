-- An end that sends again what was lost, computed over one session.
use Rattle.std.specs.Prelude.{◌≡◌, ℕ, [], ◌∷◌, Some}
use Rattle.honest_ends.specs.Worlds.{World, initiator_reads, world_after}
use Rattle.drain_ends.specs.Rows.{asked_for}

-- the initiator has read that the connection is established, and the request for the one entry that it sent
abbrev pub serving : World
serving = world_after asked_for (initiator_reads 0 5 ∷ initiator_reads 0 6 ∷ [])

-- it sends again from number 1 on so many messages, of the one that it sent
pub record ServedSample (count : ℕ) : Type 0 where
  pub range : serving.initiator.facts.connection.serving ≡ Some (record { from = 1; count = count })
  pub sent : serving.initiator.facts.recorded.sent ≡ 1
