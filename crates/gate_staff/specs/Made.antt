-- What a pass makes of the plan of its sender, and what it loses of it with a failed call (this project's profile).
use Rattle.std.specs.Prelude.{◌≡◌, ◌⊎◌, ℕ, ◌≤◌, true, List, ◌++◌, length, take, drop, slice_get, Some}
use Rattle.std.specs.List.{AllByRecursion}
use Rattle.session_model.specs.Journal.{Entry}
use Rattle.jr_kept.specs.Entries.{entries_made}
use Rattle.gate_turn.specs.Views.{Part, HasFailed}
use Rattle.gate_turn.specs.Rule.{In}
use Rattle.gate_senders.specs.Kept.{next_entry, IsFullAt}
use Rattle.gate_senders.specs.Shown.{entries_after}
use Rattle.gate_staff.specs.Sent.{entries_behind}

-- an entry is among these
abbrev pub IsAmong : List Entry → Entry → Type 0
IsAmong entries e = (place : ℕ) × (slice_get entries place ≡ Some e)

-- a pass has seen all entries of its own
abbrev pub SeesOwn : Part → Type 0
SeesOwn p = AllByRecursion (IsAmong p.seen.made) p.mine

-- behind the entries that a sender had it made messages of its plan, from there on: so many of them
pub record MadeOf (had : List Entry) (sender : ℕ) (plan : List (List ℕ)) (mine : List Entry) : Type 0 where
  pub count : ℕ
  pub are : mine ≡ had ++ entries_behind sender (length had) (take count (drop (length had) plan))

-- all of them
abbrev pub IsAllMade : List Entry → ℕ → List (List ℕ) → List Entry → Type 0
IsAllMade had sender plan mine = mine ≡ had ++ entries_behind sender (length had) (drop (length had) plan)

-- what a pass was to add by a call that failed: so many messages of its sender's plan, a piece at most, behind those that it made
pub record LosesMessages (plan : List (List ℕ)) (p : Part) : Type 0 where
  pub count : ℕ
  pub within : count ≤ length (drop (length p.mine) plan)
  pub few : count ≤ 64
  pub is : p.lost ≡ entries_made (entries_after p (take count (drop (length p.mine) plan)))

-- a pass of a number from 1 to the count has seen the mark that nothing more comes
pub record SeesMark (count : ℕ) (q : ℕ → Part) : Type 0 where
  pub number : ℕ
  pub inside : In count number
  pub marked : (q number).seen.finished ≡ true

-- a pass of a number from 1 to the count knows that a call of the disk failed, since it knew p, or since the opening
pub record SeesFailed (count : ℕ) (p q : ℕ → Part) : Type 0 where
  pub number : ℕ
  pub inside : In count number
  pub failed : HasFailed (p number).faults (q number).faults ⊎ HasFailed (q number).opening.faults (q number).faults

-- of the next message of its plan, a pass was refused at a history that is at a limit
pub record MetFull (plan : ℕ → List (List ℕ)) (count : ℕ) (q : ℕ → Part) (entries bytes : ℕ) : Type 0 where
  pub number : ℕ
  pub inside : In count number
  pub payload : List ℕ
  pub next : slice_get (plan number) (length (q number).mine) ≡ Some payload
  pub full : IsFullAt (q number).opening.limits (q number).seen (next_entry (q number).seen (q number).number payload) entries bytes
