-- What a call of a business leaves of its passes: p before the call, q behind it, by their numbers from 1 to `count`. l are the applied messages
-- behind which an Ok leaves it, and `finished` says whether the peer's finish is recorded. A business is this project's profile.
use Rattle.std.specs.Prelude.{⊤, ◌≡◌, ◌≢◌, ◌⊎◌, ℕ, ◌<◌, ◌≤◌, Bool, true, List, [], ◌∷◌, Some, None, Result, Ok, Err, OnOk}
use Rattle.session_model.specs.Journal.{finish, BeginsHistory}
use Rattle.jr_dated.specs.declared.journal.Journal.{Ghosts}
use Rattle.jr_boxes.specs.declared.faults.SubmitFault.{SubmitFault}
use Rattle.jr_boxes.specs.declared.faults.SubmitFault.TheVariants as submit
use Rattle.atomic_table.specs.Seated.{TableId}
use Rattle.gate_turn.specs.Views.{Part, HasFailed}
use Rattle.gate_turn.specs.Rule.{In}
use Rattle.gate_turn.specs.Listed.{pass_at}
use Rattle.gate_turn.specs.Calls.{IsFree}
use Rattle.gate_turn.specs.declared.pass.Pass.{Pass}
use Rattle.gate_turn.specs.declared.passes.Passes.{Passes}
use Rattle.gate_senders.specs.declared.gate.Gate.{Gate}
use Rattle.gate_staff.specs.Made.{SeesOwn, MadeOf, IsAllMade, LosesMessages, SeesMark, MetFull}
use Rattle.gate_staff.specs.declared.business.ResumeFault.{ResumeFault}
use Rattle.gate_staff.specs.declared.business.ResumeFault.TheVariants as resuming

-- the lock of a gate: its passes are of this one
abbrev pub lock_of : {J : Type 0} {G : Ghosts J} → Gate J G → TableId
lock_of gate = gate.lock.table.shared.table_id

-- a list has the passes of the numbers from 1 to `count`, each of this lock and free, and no others
pub record HasThese {T : Type 0} (lock : TableId) (passes : Passes T) (count : ℕ) : Type 0 where
  pub each : (n : ℕ) → In count n → (p : Pass T) × (pass_at passes n ≡ Some p) × (p.seat.table_id ≡ lock) × IsFree p
  pub others : (n : ℕ) → ¬ In count n → pass_at passes n ≡ None

-- it is the same pass: what it has seen begins with all that it had seen, and has all entries of its own where that had; and its count of faults
-- did not fall
pub record StaysPass (p q : Part) : Type 0 where
  pub seen : BeginsHistory p.seen q.seen
  pub own : SeesOwn p → SeesOwn q
  pub faults : p.faults ≤ q.faults
  pub number : q.number ≡ p.number
  pub made : q.made ≡ p.made
  pub opening : q.opening ≡ p.opening

-- each is the same pass
abbrev pub AllStay : (count : ℕ) (p q : ℕ → Part) → Type 0
AllStay count p q = (n : ℕ) → In count n → StaysPass (p n) (q n)

-- each pass made all of its plan, where the place of a pass gives the number of its sender
abbrev pub AllMadeOf : (number : ℕ → ℕ) (plan : ℕ → List (List ℕ)) (count : ℕ) (p q : ℕ → Part) → Type 0
AllMadeOf number plan count p q = (n : ℕ) → In count n → IsAllMade (p n).mine (number n) (plan n) (q n).mine

-- What the pass of place n lost with a call of the disk that failed: the next messages of its plan, a piece at most, or the mark, which only comes
-- where it may and each pass made all of its plan; and none of them made the mark in this call
pub record LosesOf (number : ℕ → ℕ) (plan : ℕ → List (List ℕ)) (count : ℕ) (p q : ℕ → Part) (finished : Bool) (n : ℕ) : Type 0 where
  pub broken : (q n).broken ≡ true
  pub unmarked : (q n).seen.finished ≢ true
  pub unmade : (m : ℕ) → In count m → (q m).ended ≡ true → (p m).ended ≡ true
  pub what : LosesMessages (plan n) (q n) ⊎ (((q n).lost ≡ finish ∷ []) × (finished ≡ true) × AllMadeOf number plan count p q)

-- Whatever the call answered: behind its own entries each pass made messages of its plan, from there on; it added the mark only where that may
-- come (`finished`) and each pass made all of its plan; and it lost nothing but what comes next
pub record GrewOf (number : ℕ → ℕ) (plan : ℕ → List (List ℕ)) (count : ℕ) (p q : ℕ → Part) (finished : Bool) : Type 0 where
  pub same : AllStay count p q
  pub each : (n : ℕ) → In count n → MadeOf (p n).mine (number n) (plan n) (q n).mine
  pub ended : (n : ℕ) → In count n → (q n).ended ≡ true → ((p n).ended ≡ true) ⊎ ((finished ≡ true) × AllMadeOf number plan count p q)
  pub lost : (n : ℕ) → In count n → ((q n).lost ≡ (p n).lost) ⊎ LosesOf number plan count p q finished n

-- Where it answered Ok: each pass made all of its plan, and where there is one and the mark may come, it stands. Or one of them has seen that the
-- mark stands already
pub record WholeOf (number : ℕ → ℕ) (plan : ℕ → List (List ℕ)) (count : ℕ) (p q : ℕ → Part) (finished : Bool) : Type 0 where
  pub all : SeesMark count q ⊎ AllMadeOf number plan count p q
  pub finish : 0 < count → finished ≡ true → SeesMark count q

-- of a business each pass stands at the place of its number, and the mark may come where the peer's finish is recorded
abbrev pub AllMade : (plan : ℕ → List (List ℕ)) (count : ℕ) (p q : ℕ → Part) → Type 0
AllMade plan count p q = AllMadeOf (λ n. n) plan count p q

abbrev pub Loses : (plan : ℕ → List (List ℕ)) (count : ℕ) (p q : ℕ → Part) (finished : Bool) (n : ℕ) → Type 0
Loses plan count p q finished n = LosesOf (λ n. n) plan count p q finished n

abbrev pub Grew : (plan : ℕ → List (List ℕ)) (count : ℕ) (p q : ℕ → Part) (finished : Bool) → Type 0
Grew plan count p q finished = GrewOf (λ n. n) plan count p q finished

abbrev pub Whole : (plan : ℕ → List (List ℕ)) (count : ℕ) (p q : ℕ → Part) (finished : Bool) → Type 0
Whole plan count p q finished = WholeOf (λ n. n) plan count p q finished

-- a refusal is shown by one of the passes: that the mark stands, or that a call of the disk failed, in this call or since the opening
pub record ShownByOne (count : ℕ) (p q : ℕ → Part) (f : SubmitFault) : Type 0 where
  pub number : ℕ
  pub inside : In count number
  pub closed : f ≡ submit.Closed → (q number).seen.finished ≡ true
  pub failed : f ≡ submit.Fault → HasFailed (p number).faults (q number).faults
  pub broken : f ≡ submit.Broken → HasFailed (q number).opening.faults (q number).faults

-- it stands so at Ok, and also where it was refused since the mark stands: nothing more is sent from then on, whatever is applied
abbrev pub StandsOn : Result (Unit {0}) SubmitFault → Type 0 → Type 0
StandsOn (Ok _) A = A
StandsOn (Err submit.Closed) A = A
StandsOn (Err _) A = ⊤

abbrev pub StandsOnResume : Result (Unit {0}) ResumeFault → Type 0 → Type 0
StandsOnResume (Ok _) A = A
StandsOnResume (Err (resuming.Submit submit.Closed)) A = A
StandsOnResume (Err _) A = ⊤

-- the passes lost nothing with a call of the disk that failed
abbrev pub LoseNothing : (count : ℕ) (p q : ℕ → Part) → Type 0
LoseNothing count p q = (n : ℕ) → In count n → (q n).lost ≡ (p n).lost

-- a turn in which the passes sent nothing
pub record SendNothing (count : ℕ) (p q : ℕ → Part) : Type 0 where
  pub same : AllStay count p q
  pub mine : (n : ℕ) → In count n → (q n).mine ≡ (p n).mine
  pub ended : (n : ℕ) → In count n → (q n).ended ≡ (p n).ended
  pub unlost : LoseNothing count p q

-- What a call on applied messages leaves, by its answer: it is whole at Ok, and where an outbox was full, that was so for the next message of a
-- plan; something was lost only at another refusal than that the mark stands
pub record Answered (plan : ℕ → List (List ℕ)) (count : ℕ) (p q : ℕ → Part) (finished : Bool) (result : Result (Unit {0}) SubmitFault) : Type 0 where
  pub grew : Grew plan count p q finished
  pub whole : OnOk result (Whole plan count p q finished)
  pub full : (entries bytes : ℕ) → result ≡ Err (submit.Full entries bytes) → MetFull plan count q entries bytes
  pub unlost : StandsOn result (LoseNothing count p q)

-- the same of a call on the messages of an inbox
pub record Resumed (plan : ℕ → List (List ℕ)) (count : ℕ) (p q : ℕ → Part) (finished : Bool) (result : Result (Unit {0}) ResumeFault) : Type 0 where
  pub grew : Grew plan count p q finished
  pub whole : OnOk result (Whole plan count p q finished)
  pub full : (entries bytes : ℕ) → result ≡ Err (resuming.Submit (submit.Full entries bytes)) → MetFull plan count q entries bytes
  pub unlost : StandsOnResume result (LoseNothing count p q)
