-- What a sender's pass knows once messages of its plan were submitted: p before, q behind them.
use Rattle.std.specs.Prelude.{⊤, ◌≡◌, ◌≢◌, ℕ, ◌-◌, ◌≤◌, true, List, [], ◌∷◌, ◌++◌, length, take, slice_get, Option, Some, None}
use Rattle.session_model.specs.Journal.{Entry, BeginsHistory}
use Rattle.jr_kept.specs.Entries as entries
use Rattle.jr_kept.specs.Entries.{entries_made}
use Rattle.jr_boxes.specs.declared.faults.SubmitFault.{SubmitFault}
use Rattle.jr_boxes.specs.declared.faults.SubmitFault.TheVariants as submit
use Rattle.gate_turn.specs.Views.{HasFailed, Part}
use Rattle.gate_senders.specs.Kept.{next_entry, IsFullAt}
use Rattle.gate_senders.specs.Shown.{entries_after}

-- the entries that a sender makes of these payloads, behind so many of its own
abbrev pub entries_behind : ℕ → ℕ → List (List ℕ) → List Entry
entries_behind = entries.entries_behind

-- the entries stand in the history at these numbers, which do not fall, from n on
abbrev pub StandAt : List Entry → ℕ → List ℕ → List Entry → Type 0
StandAt made n [] [] = ⊤
StandAt made n [] (e ∷ es) = ⊥
StandAt made n (k ∷ ks) [] = ⊥
StandAt made n (k ∷ ks) (e ∷ es) = (n ≤ k) × (slice_get made (k - 1) ≡ Some e) × StandAt made k ks es

-- It is the same pass, which made no mark and read no count; what it has seen begins with all that it had seen, and its count of
-- faults did not fall
pub record GoesOn (p q : Part) : Type 0 where
  pub seen : BeginsHistory p.seen q.seen
  pub faults : p.faults ≤ q.faults
  pub number : q.number ≡ p.number
  pub made : q.made ≡ p.made
  pub opening : q.opening ≡ p.opening
  pub ended : q.ended ≡ p.ended
  pub looks : q.looks ≡ p.looks

-- Exactly these payloads were accepted, in this order, at these numbers: the pass's own entries grew by them, and each stands in
-- what the pass has then seen, at the number that was told
pub record Sent (p q : Part) (payloads : List (List ℕ)) (numbers : List ℕ) : Type 0 where
  pub mine : q.mine ≡ p.mine ++ entries_behind p.number (length p.mine) payloads
  pub stand : StandAt q.seen.made (length p.seen.made) numbers (entries_behind p.number (length p.mine) payloads)

-- The next message of the plan was refused, as the pass shows: closed where what it has then seen has the mark, full where that is
-- at a limit, failed where a call of the disk did in this turn, and broken where one has since the opening
pub record IsShown (p q : Part) (payload : List ℕ) (fault : SubmitFault) : Type 0 where
  pub closed : fault ≡ submit.Closed → q.seen.finished ≡ true
  pub full : (entries bytes : ℕ) → fault ≡ submit.Full entries bytes → IsFullAt q.opening.limits q.seen (next_entry q.seen q.number payload) entries bytes
  pub failed : fault ≡ submit.Fault → HasFailed p.faults q.faults
  pub broken : fault ≡ submit.Broken → HasFailed q.opening.faults q.faults

-- The entries that the pass makes next, of the first of these payloads, a piece at most, were refused with a failed call, so a stop may
-- leave a beginning of them behind the history, which the mark does not end; and nothing is taken any more
pub record HasLost (q : Part) (payloads : List (List ℕ)) : Type 0 where
  pub count : ℕ
  pub within : count ≤ length payloads
  pub few : count ≤ 64
  pub lost : q.lost ≡ entries_made (entries_after q (take count payloads))
  pub broken : q.broken ≡ true
  pub unmarked : q.seen.finished ≢ true

-- how many refusals it met
abbrev pub refusals : Option SubmitFault → ℕ
refusals None = 0
refusals (Some _) = 1
