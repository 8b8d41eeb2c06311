-- What the passes of a gate know of the plans of its senders, and what an outbox keeps of them (this project's profile).
use Rattle.std.specs.Prelude.{◌≡◌, ◌≢◌, ◌⊎◌, ℕ, zero, suc, ◌+◌, ◌<◌, ◌≤◌, Bool, true, false, List, [], ◌∷◌, ◌++◌, map, length, take, drop, slice_index_or}
use mathlib.Core.List.{IsPrefix}
use Rattle.session_model.specs.Journal.{History, OutboxRecord, finish, BeginsHistory, InOrder, counts_from, entries_of}
use Rattle.session_model.specs.Inbox.{InboxRecord, has_peer_finished}
use Rattle.session_model.specs.Plans.{sent_by, Continues, Completes}
use Rattle.jr_boxes.specs.Outboxes.{outbox_of}
use Rattle.jr_kept.specs.Entries.{entries_made}
use Rattle.gate_turn.specs.Views.{Account, Part}
use Rattle.gate_turn.specs.Rule.{In}
use Rattle.gate_senders.specs.Kept.{next_entries}
use Rattle.gate_staff.specs.Made.{MadeOf, IsAllMade, LosesMessages}
use Rattle.conn_serve.specs.Answering.{messages_of}

-- the plan of each sender, whatever was applied: that of sender s is the s-th of these, and no other has one
abbrev pub plan_in : List (List (List ℕ)) → ℕ → List (List ℕ) → List (List ℕ)
plan_in plans zero applied = []
plan_in plans (suc s) applied = slice_index_or plans s []

-- each sender's pass made all of its plan
abbrev pub AllMade : Account → List (List (List ℕ)) → (ℕ → Part) → Type 0
AllMade opening plans known = (s : ℕ) → In (length plans) s → IsAllMade (entries_of opening.history.made s) s (plan_in plans s []) (known s).mine

-- the pass of a sender lost the next messages of its plan, or, where each sender's pass made all of its plan, the mark; the mark stood not
-- behind the opening history, and no pass made it
pub record LosesOwn (opening : Account) (plans : List (List (List ℕ))) (known : ℕ → Part) (n : ℕ) : Type 0 where
  pub sender : In (length plans) n
  pub opened : opening.history.finished ≢ true
  pub unended : (m : ℕ) → In (length plans + 1) m → (known m).ended ≢ true
  pub what : LosesMessages (plan_in plans n []) (known n) ⊎ (((known n).lost ≡ finish ∷ []) × AllMade opening plans known)

-- What the passes know, one more than these plans: each sender's made messages of its plan, the last made nothing and no mark, and where one
-- made the mark, each sender's made all of its plan; and what a pass lost was its own
pub record PlansMade (opening : Account) (plans : List (List (List ℕ))) (known : ℕ → Part) : Type 0 where
  pub made : (known 1).made ≡ length plans + 1
  pub number : (n : ℕ) → In (length plans + 1) n → (known n).number ≡ n
  pub each : (s : ℕ) → In (length plans) s → MadeOf (entries_of opening.history.made s) s (plan_in plans s []) (known s).mine
  pub last : (known (length plans + 1)).mine ≡ entries_of opening.history.made (length plans + 1)
  pub unmarked : (known (length plans + 1)).ended ≡ false
  pub ended : (n : ℕ) → In (length plans + 1) n → (known n).ended ≡ true → AllMade opening plans known
  pub lost : (n : ℕ) → In (length plans + 1) n → ((known n).lost ≡ []) ⊎ LosesOwn opening plans known n

-- Each sender's entries continue its plan, and where the mark was added, each sent all of it; where there is no plan, none was added
pub record KeepsPlans (plans : List (List (List ℕ))) (opening closing : History) : Type 0 where
  pub begins : BeginsHistory opening closing
  pub each : (s : ℕ) → Continues (plan_in plans s []) (sent_by opening.made s) (sent_by closing.made s)
  pub done : opening.finished ≡ false → closing.finished ≡ true → (s : ℕ) → Completes (plan_in plans s []) (sent_by opening.made s) (sent_by closing.made s)
  pub none : plans ≡ [] → closing.finished ≡ opening.finished

-- the records behind a closing history of which a stop may leave a beginning are so many messages of a sender's plan, a piece at most, behind
-- those that the history has of it
pub record NextMessages (plans : List (List (List ℕ))) (closing : History) (lost : List OutboxRecord) : Type 0 where
  pub sender : ℕ
  pub count : ℕ
  pub within : count ≤ length (drop (length (entries_of closing.made sender)) (plan_in plans sender []))
  pub few : count ≤ 64
  pub is : lost ≡ entries_made (next_entries closing sender (take count (drop (length (entries_of closing.made sender)) (plan_in plans sender []))))

-- they are the mark, and each sender sent all of its plan
pub record FinishBehind (plans : List (List (List ℕ))) (opening closing : History) (lost : List OutboxRecord) : Type 0 where
  pub some : 0 < length plans
  pub all : (s : ℕ) → Completes (plan_in plans s []) (sent_by opening.made s) (sent_by closing.made s)
  pub is : lost ≡ finish ∷ []

-- what a life lost with a failed call of its outbox's disk: nothing, or records that the senders' plans have behind the closing history, the
-- next messages of one sender or the mark
abbrev pub LosesNext : List (List (List ℕ)) → (opening closing : History) → List OutboxRecord → Type 0
LosesNext plans opening closing lost =
    (lost ≡ []) ⊎ ((closing.finished ≡ false) × (NextMessages plans closing lost ⊎ FinishBehind plans opening closing lost))

-- the closing history goes on with these records behind it as one history, in order as the closing one is, which keeps the plans too
pub record GoesOnBy (plans : List (List (List ℕ))) (opening closing : History) (kept : List OutboxRecord) : Type 0 where
  pub whole : History
  pub goes_on : outbox_of closing ++ kept ≡ outbox_of whole
  pub keeps : KeepsPlans plans opening whole
  pub in_order : InOrder closing.made → InOrder whole.made

-- it does with each beginning of what was lost
abbrev pub GoesOnWith : List (List (List ℕ)) → (opening closing : History) → List OutboxRecord → Type 0
GoesOnWith plans opening closing lost = (kept : List OutboxRecord) → IsPrefix kept lost → GoesOnBy plans opening closing kept

-- The senders of an end: how many, the plan of each over the messages that the end applied, and whether their mark waits for the peer's finish
pub record Senders : Type 0 where
  pub count : ℕ
  pub plan : ℕ → List (List ℕ) → List (List ℕ)
  pub waits : Bool

-- those that submit these plans, whatever is applied
abbrev pub submitting : List (List (List ℕ)) → Senders
submitting plans = record { count = length plans; plan = plan_in plans; waits = false }

-- their plans over what these records apply, in their order
abbrev pub plans_at : Senders → List InboxRecord → List (List (List ℕ))
plans_at senders inbox = map (λ (n : ℕ). senders.plan n (messages_of inbox)) (counts_from 1 senders.count)

-- each of them sent all of its plan over what these records apply
abbrev pub SentAll : Senders → (opening closing : History) → List InboxRecord → Type 0
SentAll senders opening closing inbox = (s : ℕ) → Completes (senders.plan s (messages_of inbox)) (sent_by opening.made s) (sent_by closing.made s)

-- An outbox kept the plans of its senders, over what its inbox applied up to a list between these: `whole` is its closing history with all that was
-- lost behind it. A mark that waits for the peer's finish was added, or lost, where that list has it
pub record KeepsSenders (senders : Senders) (opening closing whole : History) (lost : List OutboxRecord) (i j : List InboxRecord) : Type 0 where
  pub answered : List InboxRecord
  pub opened : IsPrefix i answered
  pub reached : IsPrefix answered j
  pub loses : LosesNext (plans_at senders answered) opening closing lost
  pub keeps : KeepsPlans (plans_at senders answered) opening whole
  pub waited : senders.waits ≡ true → opening.finished ≡ false → whole.finished ≡ true → has_peer_finished answered ≡ true
