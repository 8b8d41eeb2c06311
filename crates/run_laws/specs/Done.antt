-- What status 0 means of the journals of two ends that ran: each inbox has all of the other's outbox.
use Rattle.std.specs.Prelude.{◌≡◌, ◌⊎◌, true, false, List, [], ◌∷◌}
use Rattle.session_model.specs.Journal.{History}
use Rattle.session_model.specs.Inbox.{InboxRecord, has_peer_finished}
use Rattle.fixp_msgs.specs.declared.flow.Flow.{Flow}
use Rattle.fixp_shake.specs.Flows.{is_absent}
use Rattle.fixp_shake.specs.declared.config.Role.{Role}
use Rattle.fixp_shake.specs.declared.config.Role.TheVariants.{Initiator, Acceptor}
use Rattle.fixp_replies.specs.declared.act.Ending.TheVariants as endings
use Rattle.jr_dated.specs.declared.journal.Journal.{Ghosts}
use Rattle.conn_lines.specs.declared.close.Close.TheVariants as closes
use Rattle.conn_serve.specs.Served.{EndsWith}
use Rattle.cmd_base.specs.declared.status.Status.TheVariants.{Done}
use Rattle.cmd_config.specs.declared.configuration.Link.{Link}
use Rattle.cmd_feed.specs.Outsides.{FeedSees}
use Rattle.run_laws.specs.Several.{Run, IsRun}
use Rattle.run_laws.specs.TimedRuns.{Served, EndRan, served_of_run}
use Rattle.run_laws.specs.TimedLaws.{HasWhole, AreLinked}

module _ {S K D N C : Type 0} where
  -- one of some runs came back with status 0
  abbrev pub SomeDone : List (Run S K D N C) → Type 0
  SomeDone [] = ⊥
  SomeDone (r ∷ later) = (r.status ≡ Done) ⊎ SomeDone later

-- an inbox has all of an outbox of this flow, to its finish: that stands in both, but where the flow is absent
pub record HasToFinish (flow : Flow) (h : History) (inbox : List InboxRecord) : Type 0 where
  pub finished : is_absent flow ≡ false → (h.finished ≡ true) × (has_peer_finished inbox ≡ true)
  pub whole : HasWhole flow h inbox

-- one life was lived, and the last of its connections ended as Finished
abbrev pub IsLivedToFinish : List Served → Type 0
IsLivedToFinish [] = ⊥
IsLivedToFinish (s ∷ []) = EndsWith (closes.Ended endings.Finished) s.ended
IsLivedToFinish (s ∷ t ∷ later) = ⊥

module _ {S I K A D N C J : Type 0} (G : Ghosts J) (sees : FeedSees S I K A D N C) where
  -- so it is of each run that came back with status 0, fed or not, whatever its peer does
  abbrev pub DoneIsLived : Type 0
  DoneIsLived = (role : Role) (r : Run S K D N C) → (is : IsRun G sees role r) → r.status ≡ Done → IsLivedToFinish (served_of_run G sees role r is)

  -- Two ends ran by matching links, over links that gave in time what they took. Where a run of an end came back with status 0, its inbox has all of the
  -- other's outbox, to its finish, whatever runs came behind it and however the other's ended
  abbrev pub DoneIsWhole : Type 0
  DoneIsWhole = G.tells → (li la : Link) (i : EndRan G sees Initiator li) (a : EndRan G sees Acceptor la) → AreLinked G sees li la i a
      → (SomeDone a.runs → HasToFinish li.client_flow i.outbox a.inbox) × (SomeDone i.runs → HasToFinish la.server_flow a.outbox i.inbox)
