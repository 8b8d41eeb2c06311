-- What a turn sends of the outbox (this project's profile).
use Rattle.std.specs.Prelude.{◌≡◌, ℕ, ◌<◌, List, ◌++◌, length, Option}
use Rattle.session_model.specs.Journal.{History, BeginsHistory}
use Rattle.jr_dated.specs.declared.faults.FetchFault.{FetchFault}
use Rattle.jr_dated.specs.declared.faults.FetchFault.TheVariants as fetching
use Rattle.fixp_machine.specs.Machine.{Call, run}
use Rattle.gate_turn.specs.Views.{HasFailed, Part}
use Rattle.conn_turns.specs.declared.answer.TurnFault.{TurnFault}
use Rattle.conn_turns.specs.declared.answer.TurnFault.TheVariants as faults
use Rattle.conn_turns.specs.Lines.{Line}
use Rattle.conn_turns.specs.Exact.{IsAsDue, unless_waits}
use Rattle.conn_turns.specs.Turns.{again_calls, live_calls, finish_calls, served_of, served_now, live_of, live_beside, finish_of}

-- a refusal of the outbox, as a turn answers it
abbrev pub fault_of : FetchFault → TurnFault
fault_of fetching.Broken = faults.Broken
fault_of fetching.Memory = faults.Memory
fault_of fetching.Fault = faults.Outbox
fault_of (fetching.Changed at) = faults.Changed at

-- a fault of the outbox, as the pass shows it; a record of those seen has changed only on a disk that does not tell its content
pub record BlamesPass (tells : Type 0) (p q : Part) (fault : TurnFault) : Type 0 where
  pub failed : fault ≡ faults.Outbox → HasFailed p.faults q.faults
  pub broken : fault ≡ faults.Broken → HasFailed q.opening.faults q.faults
  pub no_other : (fault ≡ faults.Link → ⊥) × (fault ≡ faults.Inbox → ⊥)
  pub changed : (at : ℕ) → fault ≡ faults.Changed at → (at < length q.seen.made) × (tells → ⊥)
  pub never_full : (entries bytes : ℕ) → fault ≡ faults.Full entries bytes → ⊥

-- of the payloads that were due as many were sent, by these calls of the machine; and just those, where the outbox's disk tells its
-- content
pub record SentDue (tells : Type 0) (due : Option (List (List ℕ))) (calls : Option (List (List ℕ)) → List Call) (old new : Line) : Type 0 where
  pub sent : Option (List (List ℕ))
  pub as_due : IsAsDue due sent
  pub told : tells → sent ≡ due
  pub line : new ≡ record old { machine = run old.machine (calls sent) }

-- the front of the range that was served was sent again, as many entries as a turn sends at most, of the outbox as it was seen then; and entries were sent live
-- where that may be and none was sent again, and the finish was told where it stands, both of the outbox as it was seen at one look behind
-- that. Nothing of it was sent or told where the turn began with output unsent
pub record ServedOutbox (tells : Type 0) (now : ℕ) (seen seen' : History) (old new : Line) : Type 0 where
  pub due_again : Option (List (List ℕ))
  pub due_live : Option (List (List ℕ))
  pub again : Option (List (List ℕ))
  pub live : Option (List (List ℕ))
  pub finish : Option ℕ
  pub at_again : History
  pub due_again_is : due_again ≡ unless_waits old (served_of old.per_turn (served_now old.machine) at_again)
  pub due_live_is : due_live ≡ unless_waits old (live_beside again (live_of old.per_turn (run old.machine (again_calls now again)) seen'))
  pub again_is : IsAsDue due_again again
  pub live_is : IsAsDue due_live live
  pub faithful : tells → (again ≡ due_again) × (live ≡ due_live)
  pub finish_is : finish ≡ unless_waits old (finish_of old.machine seen')
  pub seen_again : BeginsHistory seen at_again
  pub seen_live : BeginsHistory at_again seen'
  pub line : new ≡ record old { machine = run old.machine (again_calls now again ++ (live_calls now live ++ finish_calls now finish)) }
