-- What a pass sends of the messages that come next: p before, q behind (this project's profile).
use Rattle.std.specs.Prelude.{◌≡◌, ◌≢◌, ◌⊎◌, ℕ, ◌-◌, ◌^◌, ℤ, pos, negsuc, ◌≤ℤ◌, ◌<ℤ◌, true, List, [], ◌∷◌, ◌++◌, length, Result, Err, OnOk}
use Rattle.jr_boxes.specs.declared.faults.SubmitFault.{SubmitFault}
use Rattle.jr_boxes.specs.declared.faults.SubmitFault.TheVariants as submit
use Rattle.session_model.specs.Journal.{finish}
use Rattle.gate_turn.specs.Views.{Part, HasFailed}
use Rattle.gate_senders.specs.Shown.{TakesTurn}
use Rattle.gate_staff.specs.Sent.{entries_behind, GoesOn, IsShown, HasLost}
use Rattle.gate_staff.specs.Made.{SeesOwn}

-- a number of 64 bits with a sign
pub record IsPrice (price : ℤ) : Type 0 where
  pub least : negsuc (2 ^ 63 - 1) ≤ℤ price
  pub most : price <ℤ pos (2 ^ 63)

-- the first of these was refused, as the pass shows; where a call failed, a stop may leave a beginning of the first of them, a piece at most
pub record RefusedAt (p q : Part) (rest : List (List ℕ)) (f : SubmitFault) : Type 0 where
  pub payload : List ℕ
  pub more : List (List ℕ)
  pub first : rest ≡ payload ∷ more
  pub shown : IsShown p q payload f
  pub lost : f ≡ submit.Fault → HasLost q rest

-- the first of these were sent, in order, and the pass has seen them as it had its own; at Ok all of them, else the one behind was refused. Nothing
-- but of those behind was lost
pub record Reported (p q : Part) (next : List (List ℕ)) (result : Result (Unit {0}) SubmitFault) : Type 0 where
  pub pass : GoesOn p q
  pub own : SeesOwn p → SeesOwn q
  pub sent : List (List ℕ)
  pub rest : List (List ℕ)
  pub are : next ≡ sent ++ rest
  pub mine : q.mine ≡ p.mine ++ entries_behind p.number (length p.mine) sent
  pub whole : OnOk result (rest ≡ [])
  pub refused : (f : SubmitFault) → result ≡ Err f → f ≢ submit.Memory → RefusedAt p q rest f
  pub unlost : (result ≡ Err submit.Fault → ⊥) → q.lost ≡ p.lost

-- the mark was refused with a failed call, so a stop may leave it behind the history, which had none; the pass has not made it, and nothing is taken
-- any more
pub record LosesFinish (p q : Part) : Type 0 where
  pub lost : q.lost ≡ finish ∷ []
  pub ended : q.ended ≡ p.ended
  pub broken : q.broken ≡ true
  pub unmarked : q.seen.finished ≢ true

-- The pass took one turn. The mark stands, where it is Ok: it was added, or stood already. Else the disk failed, as the pass shows, or memory ran out. Nothing but the mark
-- was lost
pub record Finishing (p q : Part) (result : Result (Unit {0}) SubmitFault) : Type 0 where
  pub turn : TakesTurn p q
  pub mine : q.mine ≡ p.mine
  pub marked : OnOk result (q.seen.finished ≡ true)
  pub lost : (q.lost ≡ p.lost) ⊎ LosesFinish p q
  pub failed : result ≡ Err submit.Fault → HasFailed p.faults q.faults
  pub broken : result ≡ Err submit.Broken → HasFailed q.opening.faults q.faults
  pub unclosed : result ≢ Err submit.Closed
  pub unfilled : (entries bytes : ℕ) → result ≢ Err (submit.Full entries bytes)
