-- Two ends that were at rest where their last runs left them: quiet, or both finishes exchanged (this project's profile).
use Rattle.std.specs.Prelude.{◌≡◌, ◌⊎◌, true, List, [], ◌∷◌, ◌++◌, Some, None}
use Rattle.session_model.specs.Journal.{History}
use Rattle.fixp_shake.specs.declared.config.Role.TheVariants.{Initiator, Acceptor}
use Rattle.fixp_replies.specs.Facts.{finishes_exchanged}
use Rattle.fixp_machine.specs.Machine.{State, around}
use Rattle.conn_turns.specs.Lines.{Line}
use Rattle.turn_laws.specs.Legs.{TurnedLeg}
use Rattle.jr_dated.specs.declared.journal.Journal.{Ghosts}
use Rattle.cmd_config.specs.declared.configuration.Link.{Link}
use Rattle.cmd_feed.specs.Outsides.{FeedSees}
use Rattle.honest_ends.specs.Resting.{IsIdle}
use Rattle.honest_turns.specs.Links.{OverOneLink}
use Rattle.honest_turns.specs.Sides.{NothingLeft}
use Rattle.honest_turns.specs.Lives.{InTime}
use Rattle.run_laws.specs.TimedRuns.{Served, Matching, EndRan, lives, legs_of, last_line, last_machine}
use Rattle.run_laws.specs.TimedLaws.{HasWhole}

-- The last connections of both ends lie over one link, and none of their turns was cut short; all connections before them are in the order of time
pub record MeetLast (i a : List Served) : Type 0 where
  pub before_i : List TurnedLeg
  pub before_a : List TurnedLeg
  pub last_i : TurnedLeg
  pub last_a : TurnedLeg
  pub legs_i : legs_of i ≡ before_i ++ last_i ∷ []
  pub legs_a : legs_of a ≡ before_a ++ last_a ∷ []
  pub before : InTime before_i before_a
  pub link : OverOneLink last_i last_a
  pub whole_i : last_i.cut ≡ None
  pub whole_a : last_a.cut ≡ None

-- The last life of each gave up that connection, and they were quiet there: both connections open and established, each end had sent all that its
-- outbox holds and asked for nothing, and nothing was under way
pub record WereQuiet (h_i h_a : History) (i a : List Served) (m : MeetLast i a) : Type 0 where
  pub line_i : Line
  pub line_a : Line
  pub left_i : last_line i ≡ Some line_i
  pub left_a : last_line a ≡ Some line_a
  pub initiator : IsIdle h_i.made line_i.machine
  pub acceptor : IsIdle h_a.made line_a.machine
  pub outward : NothingLeft m.last_i m.last_a line_i line_a
  pub homeward : NothingLeft m.last_a m.last_i line_a line_i

-- or both finishes were exchanged at both, however the last life of each came to its end
pub record WereOver (i a : List Served) : Type 0 where
  pub machine_i : State
  pub machine_a : State
  pub left_i : last_machine i ≡ Some machine_i
  pub left_a : last_machine a ≡ Some machine_a
  pub initiator : finishes_exchanged (around machine_i 0 0) machine_i.facts ≡ true
  pub acceptor : finishes_exchanged (around machine_a 0 0) machine_a.facts ≡ true

module _ {S I K A D N C J : Type 0} (G : Ghosts J) (sees : FeedSees S I K A D N C) where
  -- then, over disks that tell their content, each inbox has all of the other end's outbox
  abbrev pub RestIsWhole : Type 0
  RestIsWhole = G.tells → (li la : Link) (i : EndRan G sees Initiator li) (a : EndRan G sees Acceptor la) → Matching li la
      → (m : MeetLast (lives G sees Initiator li i) (lives G sees Acceptor la a))
      → WereQuiet i.outbox a.outbox (lives G sees Initiator li i) (lives G sees Acceptor la a) m
      ⊎ WereOver (lives G sees Initiator li i) (lives G sees Acceptor la a)
      → HasWhole li.client_flow i.outbox a.inbox × HasWhole la.server_flow a.outbox i.inbox
