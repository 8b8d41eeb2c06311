-- Two ends from their beginning to both finishes, over a link that is lost once: the premises of the law can be met.
use Rattle.std.specs.Prelude.{◌≡◌, ℕ, List, [], ◌∷◌, Some}
use Rattle.session_model.specs.Journal.{Entry}
use Rattle.flow_retrans.specs.declared.request.Request.TheVariants as requests
use Rattle.fixp_replies.specs.declared.act.Ending.TheVariants as endings
use Rattle.fixp_machine.specs.Machine.{live, again, closed, turn_done, fresh}
use Rattle.connection_laws.specs.Samples.{one, sample_config}
use Rattle.two_ends.specs.Samples.{acceptor, recorded}
use Rattle.honest_ends.specs.Worlds.{World, Step, meets, initiator_reads, acceptor_reads, initiator_does, acceptor_does, world_after, AllMayStep, Starts}

-- the session was negotiated, and the initiator's outbox comes to have one entry
abbrev pub outbox : List Entry
outbox = record { sender = 1; own_number = 1; payload = one } ∷ []

abbrev pub beginning : World
beginning = record { initiator = fresh sample_config recorded 100; acceptor = fresh acceptor recorded 100; outward = []; homeward = [] }

-- They shake hands, and the entry goes live and is lost
abbrev pub lost : List Step
lost = meets 0 0 ∷ acceptor_reads 0 1 ∷ initiator_reads 0 1 ∷ initiator_does (live (one ∷ []) 2) ∷ []

-- On a new link they shake hands again, the acceptor asks for the entry, and it is sent again and applied
abbrev pub again_sent : List Step
again_sent =
    meets 3 3 ∷ acceptor_reads 0 4 ∷ initiator_reads 0 4 ∷ initiator_reads 0 4
    ∷ initiator_does (again (one ∷ []) 5) ∷ acceptor_reads 0 6 ∷ acceptor_reads 0 6 ∷ acceptor_reads 0 6 ∷ []

-- Each tells its finish and answers the other's, and the initiator closes the connection
abbrev pub finished : List Step
finished =
    initiator_does (closed 1 7) ∷ acceptor_reads 0 7 ∷ initiator_reads 0 7
    ∷ acceptor_does (closed 0 8) ∷ initiator_reads 0 8 ∷ acceptor_reads 0 8
    ∷ initiator_does (turn_done 9) ∷ acceptor_reads 0 9 ∷ initiator_reads 0 9 ∷ []

abbrev pub after_loss : World
after_loss = world_after beginning lost

abbrev pub after_repair : World
after_repair = world_after after_loss again_sent

abbrev pub at_end : World
at_end = world_after after_repair finished

abbrev pub SessionSample : Type 0
SessionSample =
    Starts beginning × AllMayStep outbox [] beginning lost × AllMayStep outbox [] after_loss again_sent × AllMayStep outbox [] after_repair finished
    × (at_end.acceptor.facts.recorded.inbox_next ≡ 2) × (at_end.initiator.ending ≡ Some endings.Finished) × (at_end.acceptor.ending ≡ Some endings.Finished)

-- The same two ends, each of a version of the session schema
abbrev pub versioned : (of_initiator of_acceptor : ℕ) → World
versioned vi va = record {
  initiator = fresh (record sample_config { version = vi }) recorded 100;
  acceptor = fresh (record acceptor { version = va }) recorded 100;
  outward = [];
  homeward = [];
}

-- Where both have version 1, the acceptor tells on the new link that it expects number 1, and the initiator begins with that: the entry goes
-- live once more
abbrev pub begun_anew : List Step
begun_anew = meets 3 3 ∷ acceptor_reads 0 4 ∷ initiator_reads 0 4 ∷ initiator_does (live (one ∷ []) 5) ∷ acceptor_reads 0 6 ∷ acceptor_reads 0 6 ∷ []

abbrev pub newer_lost : World
newer_lost = world_after (versioned 1 1) lost

abbrev pub told_back : World
told_back = world_after newer_lost (meets 3 3 ∷ acceptor_reads 0 4 ∷ initiator_reads 0 4 ∷ [])

abbrev pub newer_repaired : World
newer_repaired = world_after newer_lost begun_anew

-- it counts none as sent then, asks for nothing, and applies the entry once; where one of them alone has version 1, the entry is asked for as
-- between ends of version 0
abbrev pub VersionsSample : Type 0
VersionsSample =
    Starts (versioned 1 1) × AllMayStep outbox [] (versioned 1 1) lost × AllMayStep outbox [] newer_lost begun_anew
    × (told_back.initiator.facts.recorded.sent ≡ 0) × (told_back.homeward ≡ [])
    × (newer_repaired.acceptor.facts.recorded.inbox_next ≡ 2) × (newer_repaired.acceptor.facts.connection.requester ≡ requests.Nothing)
    × (newer_repaired.outward ≡ [])
    × AllMayStep outbox [] (world_after (versioned 1 0) lost) again_sent
    × ((world_after (world_after (versioned 1 0) lost) again_sent).acceptor.facts.recorded.inbox_next ≡ 2)
    × AllMayStep outbox [] (world_after (versioned 0 1) lost) again_sent
    × ((world_after (world_after (versioned 0 1) lost) again_sent).acceptor.facts.recorded.inbox_next ≡ 2)
