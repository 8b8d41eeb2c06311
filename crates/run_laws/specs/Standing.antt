-- What a run acknowledged stands in the outbox behind all later runs: the history that its life closed on begins the one that is left.
use Rattle.std.specs.Prelude.{⊤, ◌⊎◌, ℕ, List, [], ◌∷◌, Option, Some, None}
use Rattle.std.proofs.Common.{inl, inr}
use Rattle.session_model.specs.Journal.{History, BeginsHistory}
use Rattle.fixp_shake.specs.declared.config.EndConfig.{EndConfig}
use Rattle.fixp_shake.specs.declared.config.Role.{Role}
use Rattle.jr_dated.specs.declared.journal.Journal.{Ghosts}
use Rattle.cmd_session.specs.Journals.{IsJournal}
use Rattle.jr_boxes.specs.Outboxes.{records_of_history}
use Rattle.cmd_base.specs.declared.status.Status.{Status}
use Rattle.cmd_config.specs.declared.configuration.Configuration.{Configuration}
use Rattle.life_laws.specs.Plans.{Senders, submitting}
use Rattle.cmd_session.specs.Answers.{answerers}
use Rattle.cmd_session.specs.Inputs.{end_of}
use Rattle.cmd_session.specs.Lived.{LeftAll, HasLivedOver, Lived}
use Rattle.cmd_session.specs.Outsides.{Sees}
use Rattle.cmd_session.specs.Steps.{StopsAtInput, EndsBehindConfig, Steps}
use Rattle.cmd_session.specs.declared.outside.SessionOutside.{SessionOutside}
use Rattle.cmd_feed.specs.declared.outside.FeedOutside.{FeedOutside}
use Rattle.cmd_feed.specs.Outsides.{FeedSees}
use Rattle.run_laws.specs.Several.{Run, IsEmptyJournal, RunsOver, IsRun}
use Rattle.run_laws.specs.FedLives.{FedLife, fed_life}

module _ {S K D N C J : Type 0} (G : Ghosts J) (sees : Sees S K D N C) (role : Role) (before after : SessionOutside S K D N C) (status : Status) where
  -- what a life closed on, if one was lived, begins this history
  abbrev pub LifeStands : (h : History) (config : EndConfig) (senders : Senders)
      → LeftAll sees before after status ⊎ HasLivedOver G sees config senders before after status → Type 0
  LifeStands h config senders (inl left) = ⊤
  LifeStands h config senders (inr lived) = BeginsHistory lived.over.closing h

  abbrev pub BoxesStand : (h : History) (c : Configuration)
      → StopsAtInput sees c.trade.senders before after status ⊎ Lived G sees c.trade.senders (end_of role c.link) before after status → Type 0
  BoxesStand h c (inl refused) = ⊤
  BoxesStand h c (inr life) = LifeStands h (end_of role c.link) (submitting life.plans) life.lived

  abbrev pub ConfigStands : (h : History) (c : Configuration) → EndsBehindConfig G sees role c before after status → Type 0
  ConfigStands h c (inl refused) = ⊤
  ConfigStands h c (inr (inl on)) = BoxesStand h c on.1.ended
  ConfigStands h c (inr (inr on)) = LifeStands h (end_of role c.link) (answerers c.trade) on.1.lived.lived

  abbrev pub StepsStand : (h : History) → Steps G sees role before after status → Type 0
  StepsStand h (inl stopped) = ⊤
  StepsStand h (inr was) = ConfigStands h was.configuration was.ended

module _ {S I K A D N C J : Type 0} (G : Ghosts J) (sees : FeedSees S I K A D N C) (role : Role) (h : History) where
  -- and so of a life that was fed
  abbrev pub FedStands : (before after : FeedOutside S I K A D N C) (status : Status) → Option (FedLife G sees role before after status) → Type 0
  FedStands before after status None = ⊤
  FedStands before after status (Some l) = BeginsHistory l.lived.over.closing h

  abbrev pub RunStands : (r : Run S K D N C) → IsRun G sees role r → Type 0
  RunStands r (inl steps) = StepsStand G sees.session role r.before r.after r.status h steps
  RunStands r (inr fed) = FedStands fed.before fed.after r.status (fed_life G sees role fed.before fed.after r.status fed.steps)

  module _ (outbox inbox : List ℕ) where
    abbrev pub AllStand : (runs : List (Run S K D N C)) (outboxes inboxes : List ℕ → Type 0)
        → RunsOver sees.session (IsRun G sees role) runs outboxes inboxes outbox inbox → Type 0
    AllStand [] outboxes inboxes over = ⊤
    AllStand (r ∷ later) outboxes inboxes over =
        RunStands r over.2 × AllStand later (sees.session.may_leave r.after.out_disk) (sees.session.may_leave r.after.in_disk) over.3

module _ {S I K A D N C J : Type 0} where
  -- so it is behind any runs of one end, fed or not, whatever its peer does, of whatever history a stop may leave
  abbrev pub ClosingsStand : Ghosts J → FeedSees S I K A D N C → Type 0
  ClosingsStand G sees = (role : Role) (h : History) (outbox inbox : List ℕ) (runs : List (Run S K D N C))
      → (over : RunsOver sees.session (IsRun G sees role) runs IsEmptyJournal IsEmptyJournal outbox inbox)
      → IsJournal outbox (records_of_history h)
      → AllStand G sees role h outbox inbox runs IsEmptyJournal IsEmptyJournal over
