-- What a value keeps where it takes an entry, and what a pass then knows.
use Rattle.std.specs.Prelude.{◌≡◌, ◌≢◌, ℕ, ◌≤◌, true, List, [], ◌∷◌, ◌++◌, length}
use Rattle.session_model.specs.Journal.{Entry, History, BeginsHistory}
use Rattle.gate_turn.specs.Views.{Account, HasFailed, Part}
use Rattle.gate_turn.specs.Rule.{StaysBroken}

-- one entry of the sender n behind the history
pub record AddsEntry (n : ℕ) (was now : History) : Type 0 where
  pub entry : Entry
  pub open_before : was.finished ≢ true
  pub open_after : now.finished ≢ true
  pub author : entry.sender ≡ n
  pub behind : now.made ≡ was.made ++ entry ∷ []

-- The limits stay, the count of faults does not fall, and what is broken now was so before, or a call of its device has failed since.
-- What is broken stays so, and nothing is refused
pub record StaysSound (before after : Account) : Type 0 where
  pub limits : after.limits ≡ before.limits
  pub faults : before.faults ≤ after.faults
  pub broken : after.broken ≡ true → before.broken ≢ true → HasFailed before.faults after.faults
  pub stays : StaysBroken before.broken before.refused after.broken after.refused
  pub refused : after.refused ≡ before.refused

-- the pass that knew p has added one entry of its own, as the n-th of all, behind all that it had seen
pub record Sent (p q : Part) (n : ℕ) : Type 0 where
  pub entry : Entry
  pub author : entry.sender ≡ p.number
  pub seen : BeginsHistory p.seen q.seen
  pub count : length q.seen.made ≡ n
  pub last : (before : List Entry) × (q.seen.made ≡ before ++ entry ∷ [])
  pub mine : q.mine ≡ p.mine ++ entry ∷ []
