-- What the lives of fed runs leave stands behind all later runs.
use Rattle.std.proofs.Common.{inl, inr, ℕ, ◌-◌, List, [], ◌∷◌, subst}
use Rattle.std.specs.Prelude.{All, Option, Some, None}
use Rattle.std.specs.Option.{ForSome}
use Rattle.std.proofs.lemmas.List.Elements.{All-nil, All-cons, All-head, All-tail}
use mathlib.Core.List.{IsPrefix}
use Rattle.session_model.specs.Journal.{Entry, History, BeginsHistory}
use Rattle.fixp_shake.specs.declared.config.Role.{Role}
use Rattle.jr_dated.specs.declared.journal.Journal.{Ghosts}
use Rattle.jr_boxes.specs.Outboxes.{records_of_history}
use Rattle.cmd_base.specs.declared.status.Status.{Status}
use Rattle.conn_feed.specs.Words.{Word, accepted, refused}
use Rattle.fed_laws.specs.Told.{StandsAt}
use Rattle.cmd_session.specs.Journals.{IsJournal}
use Rattle.cmd_feed.specs.declared.outside.FeedOutside.{FeedOutside}
use Rattle.cmd_feed.specs.Outsides.{FeedSees}
use Rattle.run_laws.specs.Several.{Run, IsEmptyJournal, RunsOver, IsRun}
use Rattle.run_laws.specs.FedLives.{FedLife, fed_life}
use Rattle.run_laws.specs.Standing.{FedStands, RunStands, AllStand}
use Rattle.run_laws.specs.FedLaws.{FedLifeHolds, LifeFed, RunFed, AllFed, FedHold}
use Rattle.run_laws.proofs.Gave.{at_prefix}
use Rattle.run_laws.proofs.Acknowledged.{closings_stand}

-- what stands at its number in a beginning stands there in all
stands_on : (closing made : List Entry) → IsPrefix closing made → (w : Word) → StandsAt closing w → StandsAt made w
stands_on closing made p (accepted n e) k = (k.0, at_prefix closing made p (n - 1) e k.1)
stands_on closing made p (refused why) k = tt

all_on : (closing made : List Entry) → IsPrefix closing made → (ws : List Word) → All (StandsAt closing) ws → All (StandsAt made) ws
all_on closing made p [] all = All-nil (StandsAt made)
all_on closing made p (w ∷ ws) all =
    All-cons (StandsAt made) w ws (stands_on closing made p w (All-head (StandsAt closing) w ws all)) (all_on closing made p ws (All-tail (StandsAt closing) w ws all))

module _ {S I K A D N C J : Type 0} (G : Ghosts J) (sees : FeedSees S I K A D N C) (role : Role) (h : History) where
  module _ (before after : FeedOutside S I K A D N C) (status : Status) where
    life_holds : (l : FedLife G sees role before after status) → BeginsHistory l.lived.over.closing h → FedLifeHolds G sees role h before after status l
    life_holds l begins = record {
      opened = subst (λ (x : History). ForSome (sees.session.told before.out_disk) (λ content. IsJournal content (records_of_history x))) l.lived.opened l.lived.over.out_opened;
      fed = l.lived.fed;
      begins = begins;
      stand = all_on l.lived.over.closing.made h.made begins.made l.lived.fed.words l.lived.fed.stand;
    }

    life_fed : (o : Option (FedLife G sees role before after status)) → FedStands G sees role h before after status o → LifeFed G sees role h before after status o
    life_fed None k = tt
    life_fed (Some l) k = life_holds l k

  run_fed : (r : Run S K D N C) (s : IsRun G sees role r) → RunStands G sees role h r s → RunFed G sees role h r s
  run_fed r (inl steps) k = tt
  run_fed r (inr fed) k = life_fed fed.before fed.after r.status (fed_life G sees role fed.before fed.after r.status fed.steps) k

  all_fed : (outbox inbox : List ℕ) (runs : List (Run S K D N C)) (outboxes inboxes : List ℕ → Type 0) (over : RunsOver sees.session (IsRun G sees role) runs outboxes inboxes outbox inbox)
      → AllStand G sees role h outbox inbox runs outboxes inboxes over → AllFed G sees role h outbox inbox runs outboxes inboxes over
  all_fed outbox inbox [] outboxes inboxes over stand = tt
  all_fed outbox inbox (r ∷ later) outboxes inboxes over stand =
      (run_fed r over.2 stand.0, all_fed outbox inbox later (sees.session.may_leave r.after.out_disk) (sees.session.may_leave r.after.in_disk) over.3 stand.1)

pub fed_hold : {S I K A D N C J : Type 0} (G : Ghosts J) (sees : FeedSees S I K A D N C) → FedHold G sees
fed_hold G sees role h outbox inbox runs over is = all_fed G sees role h outbox inbox runs IsEmptyJournal IsEmptyJournal over (closings_stand G sees role h outbox inbox runs over is)
