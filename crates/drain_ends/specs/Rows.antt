-- The measure of two ends over a whole session, and what they have to do in it: the premises of the laws can be met.
use Rattle.std.specs.Prelude.{◌≡◌, true, false, [], ◌∷◌}
use Rattle.session_model.specs.Journal.{History}
use Rattle.fixp_machine.specs.Machine.{turn_done, closed}
use Rattle.honest_ends.specs.Worlds.{World, meets, acceptor_reads, initiator_reads, initiator_does, acceptor_does, after, world_after}
use Rattle.honest_ends.specs.PhaseSamples.{outbox, beginning, after_loss, after_repair, at_end}
use Rattle.drain_laws.specs.Beginning.{bound}
use Rattle.drain_laws.specs.Counts.{shutting, finish, request, under_way}
use Rattle.drain_laws.specs.Counts as counts
use Rattle.drain_ends.specs.Agreeing.{IsKnown}
use Rattle.drain_ends.specs.Acting.{HasToDo}
use Rattle.drain_ends.specs.Falling.{measure}

-- the acceptor has read an Establish that announces the entry that was lost, and asks for it
abbrev pub asked_for : World
asked_for = world_after after_loss (meets 3 3 ∷ acceptor_reads 0 4 ∷ [])

-- both finishes are exchanged, and the initiator has closed the connection
abbrev pub exchanged : World
exchanged =
    world_after after_repair
    (initiator_does (closed 1 7) ∷ acceptor_reads 0 7 ∷ initiator_reads 0 7 ∷ acceptor_does (closed 0 8) ∷ initiator_reads 0 8 ∷ acceptor_reads 0 8 ∷ [])

abbrev pub closing : World
closing = after exchanged (initiator_does (turn_done 9))

-- Before a connection stands the measure is 29 less than the most for one entry. A connection that begins anew, where the one before was lost
-- with the entry, has as much to do as the first, and then it falls, down to the Terminate that nobody reads
abbrev pub MeasureSample : Type 0
MeasureSample =
    (bound 1 ≡ 106) × (measure outbox [] beginning ≡ 77) × (measure outbox [] (after beginning (meets 0 0)) ≡ 94) × (measure outbox [] after_loss ≡ 73)
    × (measure outbox [] (after after_loss (meets 3 3)) ≡ 94) × (measure outbox [] asked_for ≡ 85) × (measure outbox [] exchanged ≡ 16)
    × (measure outbox [] closing ≡ 12) × (measure outbox [] at_end ≡ 4)

-- what is waited for is under way
abbrev pub WaitedSample : Type 0
WaitedSample =
    IsKnown beginning × (under_way request asked_for.homeward ≡ 1) × (counts.unanswered asked_for.acceptor.facts ≡ 1)
    × (under_way finish after_repair.outward ≡ 0) × (under_way shutting closing.outward ≡ 1)

-- the initiator has seen its outbox whole, and the acceptor nothing of its own
abbrev pub whole : History
whole = record { made = outbox; finished = true }

abbrev pub nothing : History
nothing = record { made = []; finished = false }

-- the initiator is to tell its finish, and then to close the connection
abbrev pub ToDoSample : Type 0
ToDoSample = HasToDo 16 16 whole nothing after_repair × HasToDo 16 16 whole nothing exchanged × HasToDo 16 16 whole nothing closing
