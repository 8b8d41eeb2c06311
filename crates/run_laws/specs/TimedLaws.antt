-- What comes of two ends that ran, each any number of times, where their links gave in time what they took.
use Rattle.std.specs.Prelude.{◌≡◌, ◌+◌, true, List, length}
use Rattle.std.specs.List.{AllByRecursion}
use Rattle.session_model.specs.Journal.{History, payloads}
use Rattle.session_model.specs.Inbox.{InboxRecord, applied, has_peer_finished, next_number, payloads_of}
use Rattle.fixp_msgs.specs.declared.flow.Flow.{Flow}
use Rattle.fixp_msgs.specs.declared.flow.Flow.TheVariants.{Recoverable}
use Rattle.fixp_shake.specs.Flows.{is_sequenced}
use Rattle.fixp_shake.specs.declared.config.Role.TheVariants.{Initiator, Acceptor}
use Rattle.jr_dated.specs.declared.journal.Journal.{Ghosts}
use Rattle.cmd_config.specs.declared.configuration.Link.{Link}
use Rattle.cmd_feed.specs.Outsides.{FeedSees}
use Rattle.honest_turns.specs.Lives.{InTime}
use Rattle.run_laws.specs.Served.{ClosesInTime}
use Rattle.run_laws.specs.TimedRuns.{Matching, EndRan, lives, legs_of, ended_of}

-- an inbox of this flow has all of an outbox: where the flow has numbers it awaits one past all of its entries, and where it is recoverable it
-- has applied them all, in order
pub record HasWhole (flow : Flow) (h : History) (inbox : List InboxRecord) : Type 0 where
  pub next : is_sequenced flow ≡ true → next_number inbox ≡ length h.made + 1
  pub equal : flow ≡ Recoverable → payloads_of (applied inbox) ≡ payloads h.made

-- where it has the finish of its peer, that is finished, and it has all of it
abbrev pub FinishHas : Flow → History → List InboxRecord → Type 0
FinishHas flow h inbox = has_peer_finished inbox ≡ true → (h.finished ≡ true) × HasWhole flow h inbox

module _ {S I K A D N C J : Type 0} (G : Ghosts J) (sees : FeedSees S I K A D N C) where
  -- Two ends ran by matching links, and all their connections, in the order of time, are paired in the same order at both: in a pair what the
  -- link gave one end it had taken of the other by then, and one in no pair was given nothing
  pub record AreLinked (li la : Link) (i : EndRan G sees Initiator li) (a : EndRan G sees Acceptor la) : Type 0 where
    pub matches : Matching li la
    pub in_time : InTime (legs_of (lives G sees Initiator li i)) (legs_of (lives G sees Acceptor la a))

  -- then, over disks that tell their content, no connection of any run of either ended closed by a violation but silence and a late handshake
  abbrev pub RunsEndInTime : Type 0
  RunsEndInTime = G.tells → (li la : Link) (i : EndRan G sees Initiator li) (a : EndRan G sees Acceptor la) → AreLinked li la i a
      → AllByRecursion ClosesInTime (ended_of (lives G sees Initiator li i)) × AllByRecursion ClosesInTime (ended_of (lives G sees Acceptor la a))

  -- and an inbox that has the finish of its peer has all of the peer's outbox
  abbrev pub FinishIsWhole : Type 0
  FinishIsWhole = G.tells → (li la : Link) (i : EndRan G sees Initiator li) (a : EndRan G sees Acceptor la) → AreLinked li la i a
      → FinishHas li.client_flow i.outbox a.inbox × FinishHas la.server_flow a.outbox i.inbox
