-- That an inbox has everything at rest.
use Rattle.std.specs.Prelude.{◌≡◌, ◌+◌, List, length}
use Rattle.session_model.specs.Journal.{Entry, payloads}
use Rattle.session_model.specs.Inbox.{InboxRecord, applied, next_number, payloads_of}
use Rattle.session_model.specs.Growth.{AppliesPrefix}
use Rattle.honest_ends.specs.Worlds.{World, Step, world_after, AllMayStep}
use Rattle.honest_ends.specs.Knowing.{StartsKnown}
use Rattle.honest_ends.specs.FinishLaws.{anew}
use Rattle.honest_ends.specs.Resting.{IsQuiet, IsOver, IsAtRest, HasAll, EndsLast}

-- whatever steps came, where each may come: if the two ends are quiet then
abbrev pub QuietHasAll : Type 0
QuietHasAll = (hi ha : List Entry) (w : World) (steps : List Step) → StartsKnown hi ha w → AllMayStep hi ha w steps → IsQuiet hi ha (world_after w steps)
    → HasAll ha (world_after w steps).initiator × HasAll hi (world_after w steps).acceptor

-- or if both finishes are exchanged, where a finish that was recorded before came behind all of its flow
abbrev pub OverHasAll : Type 0
OverHasAll = (hi ha : List Entry) (w : World) (steps : List Step) → StartsKnown hi ha w → EndsLast w.initiator → EndsLast w.acceptor
    → AllMayStep hi ha w steps → IsOver (world_after w steps)
    → HasAll ha (world_after w steps).initiator × HasAll hi (world_after w steps).acceptor

-- so at rest each inbox has all that the other end's outbox comes to have
abbrev pub RestHasAll : Type 0
RestHasAll = (hi ha : List Entry) (w : World) (steps : List Step) → StartsKnown hi ha w → EndsLast w.initiator → EndsLast w.acceptor
    → AllMayStep hi ha w steps → IsAtRest hi ha (world_after w steps)
    → HasAll ha (world_after w steps).initiator × HasAll hi (world_after w steps).acceptor

-- and a finish that both have recorded then comes behind all of its flow, so it does where their next lives begin
abbrev pub StaysEnded : Type 0
StaysEnded = (hi ha : List Entry) (w : World) (steps : List Step) → StartsKnown hi ha w → EndsLast w.initiator → EndsLast w.acceptor → AllMayStep hi ha w steps
    → EndsLast (anew (world_after w steps)).initiator × EndsLast (anew (world_after w steps)).acceptor

-- a recoverable inbox that applies the beginning of a journal and awaits one past all of it applies all of it
abbrev pub AllIsEqual : Type 0
AllIsEqual = (h : List Entry) (inbox : List InboxRecord) → AppliesPrefix h inbox → next_number inbox ≡ length h + 1 → payloads_of (applied inbox) ≡ payloads h
