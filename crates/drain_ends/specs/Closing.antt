-- Two ends one of which has ended its connection, or closes it: while the link stands, the other is told so by a Terminate, and has that
-- to do (FIXP 1.1, "Session termination").
use Rattle.std.specs.Prelude.{◌≡◌, ⊤, ℕ, ◌≤◌, ◌⊎◌, List, ◌∷◌, ◌++◌, None, IsSome}
use Rattle.std.specs.List.{AllByRecursion}
use Rattle.session_model.specs.Journal.{Entry, History}
use Rattle.fixp_machine.specs.Machine.{State}
use Rattle.connection_laws.specs.Writing.{Piece}
use Rattle.honest_ends.specs.Worlds.{World, Step, meets, initiator_reads, acceptor_reads, initiator_does, acceptor_does, world_after, AllMayStep}
use Rattle.honest_ends.specs.Knowing.{StartsKnown}
use Rattle.drain_laws.specs.Counts.{shutting, under_way}
use Rattle.drain_ends.specs.Shutting.{IsCall, IsOver}
use Rattle.drain_ends.specs.Acting.{HasToDo}

-- a step other than the link's end at one of them, and than the beginning of another connection
abbrev pub KeepsLink : Step → Type 0
KeepsLink (meets now_i now_a) = ⊥
KeepsLink (initiator_reads at now) = ⊤
KeepsLink (acceptor_reads at now) = ⊤
KeepsLink (initiator_does call) = IsCall call
KeepsLink (acceptor_does call) = IsCall call

-- the Terminate of an end that has ended its connection or closes it is under way, or its reader has ended too
abbrev pub IsTold : (writer reader : State) → (way : List Piece) → Type 0
IsTold writer reader way = IsOver writer → (1 ≤ under_way shutting way) ⊎ IsSome reader.ending

-- of both ends
pub record BothTold (w : World) : Type 0 where
  pub outward : IsTold w.initiator w.acceptor w.outward
  pub homeward : IsTold w.acceptor w.initiator w.homeward

-- whatever steps came before a connection began and came on it, where each may come, and its link stands
abbrev pub EndsAreTold : Type 0
EndsAreTold = (hi ha : List Entry) (w : World) (before later : List Step) (now_i now_a : ℕ) → StartsKnown hi ha w
    → AllMayStep hi ha w (before ++ meets now_i now_a ∷ later) → AllByRecursion KeepsLink later
    → BothTold (world_after w (before ++ meets now_i now_a ∷ later))

-- so where one has ended or closes it, and not both have ended, one has something to do
abbrev pub ClosingToDo : Type 0
ClosingToDo = (most_i most_a : ℕ) (seen_i seen_a : History) (w : World) → BothTold w → IsOver w.initiator ⊎ IsOver w.acceptor → (w.initiator.ending ≡ None) ⊎ (w.acceptor.ending ≡ None)
    → HasToDo most_i most_a seen_i seen_a w
