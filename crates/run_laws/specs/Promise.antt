-- What a user may rely on of one run of `accept` or `connect` that is not fed, said of both journals, in the words of the session model: no connection, turn, thread
-- or gate has to be known. What two ends hold of each other behind any runs is `Holds`, by `RunsHold`.
use Rattle.std.specs.Prelude.{◌⊎◌, ℕ, List, map, IsSomeAnd}
use Rattle.std.specs.Option.{ForSome}
use Rattle.session_model.specs.Lives.{Life, KeepsContract}
use Rattle.fixp_msgs.specs.declared.flow.Flow.{Flow}
use Rattle.fixp_machine.specs.Accepting.{model_flow}
use Rattle.fixp_shake.specs.declared.config.Role.{Role}
use Rattle.plan_text.specs.Plans.{HasPlans}
use Rattle.jr_dated.specs.declared.journal.Journal.{Ghosts}
use Rattle.cmd_session.specs.Journals.{IsJournal}
use Rattle.jr_boxes.specs.Outboxes.{record_of}
use Rattle.jr_boxes.specs.Inboxes.{records_of_inbox}
use Rattle.cmd_config.specs.Settings.{own_flow, peer_flow}
use Rattle.life_laws.specs.Plans.{plan_in}
use Rattle.cmd_session.specs.Lived.{LeavesImages, IsKept}
use Rattle.cmd_session.specs.Outsides.{Sees}
use Rattle.cmd_session.specs.declared.outside.SessionOutside.{SessionOutside}
use Rattle.run_laws.specs.Senders.{HasNoDesks}
use Rattle.run_laws.specs.Several.{Run, Flows, HasFlows, IsUnfed}

module _ {S K D N C : Type 0} where
  -- Both journals were kept: a stop leaves no more of a disk than before the run, or the records that it told
  pub record KeepsBoth (sees : Sees S K D N C) (before after : SessionOutside S K D N C) : Type 0 where
    pub outbox : IsKept sees.told sees.may_leave before.out_disk after.out_disk
    pub inbox : IsKept sees.told sees.may_leave before.in_disk after.in_disk

  -- One life: both disks told journals of what it opened on; it keeps the contract of one end by the plans of INPUT; and whatever a stop leaves of
  -- them, at whichever call of a device, is a journal of what it closed on and of a beginning of the records whose append failed, if one did
  pub record LivedOne (sees : Sees S K D N C) (own peer : Flow) (before after : SessionOutside S K D N C) : Type 0 where
    pub senders : ℕ
    pub plans : List (List (List ℕ))
    pub planned : ForSome (sees.left before.input) (λ text. HasPlans senders text plans)
    pub life : Life
    pub keeps : KeepsContract (model_flow own) (model_flow peer) (plan_in plans) life
    pub out_opened : ForSome (sees.told before.out_disk) (λ content. IsJournal content (map record_of life.opening_outbox))
    pub in_opened : ForSome (sees.told before.in_disk) (λ content. IsJournal content (records_of_inbox life.served.opening_inbox))
    pub out_left : LeavesImages (sees.may_leave after.out_disk) (map record_of life.closing_outbox) (map record_of life.refused_outbox)
    pub in_left : LeavesImages (sees.may_leave after.in_disk) (records_of_inbox life.served.closing_inbox) (records_of_inbox life.served.refused_inbox)

  -- a run kept both journals, each by itself, or lived such a life
  abbrev pub KeepsSession : Sees S K D N C → (own peer : Flow) → (before after : SessionOutside S K D N C) → Type 0
  KeepsSession sees own peer before after = KeepsBoth sees before after ⊎ LivedOne sees own peer before after

module _ {S K D N C J : Type 0} where
  -- so it is of each run that was not fed, over disks that tell their content, whose CONFIG tells these flows and has no desks, whatever its peer does
  abbrev pub RunKeeps : Ghosts J → Sees S K D N C → Type 0
  RunKeeps G sees = G.tells → (role : Role) (flows : Flows) (r : Run S K D N C)
      → IsSomeAnd (sees.left r.before.config) (HasFlows role flows) → IsSomeAnd (sees.left r.before.config) (HasNoDesks role) → IsUnfed G sees role r
      → KeepsSession sees (own_flow role flows.client flows.server) (peer_flow role flows.client flows.server) r.before r.after
