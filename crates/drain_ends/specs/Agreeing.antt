-- What two ends of one session know of its negotiation, at any moment: an initiator knows only what its acceptor does, and no Establish
-- between them is rejected.
use Rattle.std.specs.Prelude.{◌≡◌, ⊤, true, List}
use Rattle.std.specs.List.{AllByRecursion}
use Rattle.session_model.specs.Journal.{Entry}
use Rattle.fixp_replies.specs.declared.facts.Facts.{Facts}
use Rattle.connection_laws.specs.Writing.{Piece, said, entry}
use Rattle.honest_ends.specs.Worlds.{World, Step, world_after, AllMayStep, Starts}
use Rattle.drain_laws.specs.Negotiating.{NoReject, Says}

-- what is under way says no more than these facts know, and rejects no Establish
abbrev pub SaysSo : Facts → Piece → Type 0
SaysSo f (said m) = Says f m
SaysSo f (entry payload) = ⊤

abbrev pub IsNoReject : Piece → Type 0
IsNoReject (said m) = NoReject m
IsNoReject (entry payload) = ⊤

-- the initiator knows that the session is negotiated only where the acceptor does
abbrev pub IsKnown : World → Type 0
IsKnown w = w.initiator.facts.recorded.negotiated ≡ true → w.acceptor.facts.recorded.negotiated ≡ true

-- and so does what is under way between them
pub record Agreed (w : World) : Type 0 where
  pub known : IsKnown w
  pub outward : AllByRecursion (SaysSo w.acceptor.facts) w.outward
  pub homeward : AllByRecursion (SaysSo w.acceptor.facts) w.homeward
  pub accepted : AllByRecursion IsNoReject w.homeward

-- whatever steps come, where each may come
abbrev pub AgreedHolds : Type 0
AgreedHolds = (hi ha : List Entry) (w : World) (steps : List Step) → Starts w → IsKnown w → AllMayStep hi ha w steps → Agreed (world_after w steps)
