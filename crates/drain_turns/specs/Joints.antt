-- Two ends of one session on a connection over one link, between two of its turns, and the world of the session that they are then (this project's profile).
use Rattle.std.specs.Prelude.{◌≡◌, ℕ, ◌≤◌, false, List, ◌∷◌, ◌++◌, length}
use Rattle.std.specs.List.{AllByRecursion}
use Rattle.session_model.specs.Journal.{History}
use Rattle.fixp_machine.specs.Machine.{State}
use Rattle.conn_turns.specs.Lines.{Line}
use Rattle.conn_turns.specs.Exact.{most_held}
use Rattle.connection_laws.specs.Writing.{Piece, bytes_written}
use Rattle.connection_laws.specs.Courses.{Course}
use Rattle.turn_laws.specs.Standing.{StandsAt}
use Rattle.honest_ends.specs.Worlds.{World, Step, meets, world_after, AllMayStep}
use Rattle.honest_ends.specs.Knowing.{StartsKnown}
use Rattle.honest_turns.specs.Opened.{WritesLegal, Open, Way, Passed}
use Rattle.drain_ends.specs.Agreeing.{IsKnown}
use Rattle.drain_ends.specs.Closing.{KeepsLink}
use Rattle.drain_ends.specs.Falling as falling

-- an end between two turns: its line, and what its pass has seen of its outbox
pub record Half : Type 0 where
  pub line : Line
  pub seen : History

-- both, and the bytes under way from the initiator outward and from the acceptor homeward
pub record Joint : Type 0 where
  pub initiator : Half
  pub acceptor : Half
  pub outward : List ℕ
  pub homeward : List ℕ

-- what the outboxes of both come to have, where their courses on this connection began, and both ends before it
pub record Session : Type 0 where
  pub outbox_i : History
  pub outbox_a : History
  pub course_i : Course
  pub course_a : Course
  pub start : World

-- what is still to be done in a world of it
abbrev pub measure : Session → World → ℕ
measure s w = falling.measure s.outbox_i.made s.outbox_a.made w

-- One end. Calls that may come led from where its course began to its line, whose machine is that of the world but for the room; whatever comes,
-- what it writes is legal. Its link has not given its end, and its framer holds what it may; and its course may stand over what it has seen of its
-- outbox alone, so that it has sent no more
pub record IsOn (outbox : History) (b : Course) (half : Half) (m : State) : Type 0 where
  pub legal : WritesLegal outbox b
  pub goes : Open outbox b m half.line
  pub goes_on : half.line.over ≡ false
  pub fits : length half.line.held ≤ most_held
  pub seen : Passed outbox half.seen
  pub course : Course
  pub stands : StandsAt half.seen.made course half.line

-- what an end wrote and the other has not read are, as bytes, those that the other holds, those under way, and those unsent
pub record IsUnread (pieces : List Piece) (writer : State) (held under : List ℕ) : Type 0 where
  pub way : Way pieces writer held under
  pub whole : bytes_written pieces ≡ (held ++ under) ++ writer.unsent

-- they are this world: steps that may come led there from two ends that knew no more of each other than was sent, over the link on which they met last
pub record Shows (s : Session) (j : Joint) (w : World) : Type 0 where
  pub known : StartsKnown s.outbox_i.made s.outbox_a.made s.start
  pub agreed : IsKnown s.start
  pub now_i : ℕ
  pub now_a : ℕ
  pub later : List Step
  pub may : AllMayStep s.outbox_i.made s.outbox_a.made s.start (meets now_i now_a ∷ later)
  pub keeps : AllByRecursion KeepsLink later
  pub there : world_after s.start (meets now_i now_a ∷ later) ≡ w
  pub initiator : IsOn s.outbox_i s.course_i j.initiator w.initiator
  pub acceptor : IsOn s.outbox_a s.course_a j.acceptor w.acceptor
  pub outward : IsUnread w.outward j.initiator.line.machine j.acceptor.line.held j.outward
  pub homeward : IsUnread w.homeward j.acceptor.line.machine j.initiator.line.held j.homeward
