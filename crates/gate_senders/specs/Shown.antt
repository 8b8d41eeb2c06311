-- What a pass has seen, and what of it grew, once a call of a gate has answered: p before the call, q behind it.
use Rattle.std.specs.Prelude.{◌≡◌, ◌≢◌, ℕ, ◌+◌, ◌≤◌, true, List, [], ◌∷◌, ◌++◌, length, take, slice_get, Some}
use mathlib.Core.List.{IsPrefix}
use Rattle.session_model.specs.Journal.{Entry, BeginsHistory}
use Rattle.jr_kept.specs.Entries.{entries_behind, entries_made}
use Rattle.gate_turn.specs.Views.{Part}
use Rattle.gate_senders.specs.Kept.{next_entry, IsFullAt}

-- it is the same pass: it took one turn, what it has seen begins with all that it had seen, and its count of faults did not fall
pub record TakesTurn (p q : Part) : Type 0 where
  pub seen : BeginsHistory p.seen q.seen
  pub looked : q.looked ≡ length q.seen.made
  pub turns : q.turns ≡ p.turns + 1
  pub faults : p.faults ≤ q.faults
  pub looks : q.looks ≡ p.looks
  pub number : q.number ≡ p.number
  pub made : q.made ≡ p.made
  pub opening : q.opening ≡ p.opening

-- the entry that the pass makes next: the next one of its own numbers
abbrev pub entry_after : Part → List ℕ → Entry
entry_after p payload = record { sender = p.number; own_number = length p.mine + 1; payload = payload }

-- The entry was added as the n-th of all: what was seen ends with exactly this entry, and the pass's own entries grew by it
pub record Submitted (p q : Part) (payload : List ℕ) (n : ℕ) : Type 0 where
  pub before : List Entry
  pub last : q.seen.made ≡ before ++ entry_after p payload ∷ []
  pub unmarked : q.seen.finished ≢ true
  pub count : length q.seen.made ≡ n
  pub mine : q.mine ≡ p.mine ++ entry_after p payload ∷ []

-- the entries that the pass makes next, with these payloads
abbrev pub entries_after : Part → List (List ℕ) → List Entry
entries_after p payloads = entries_behind p.number (length p.mine) payloads

-- Entries with these payloads were added, in this order: what was seen ends with exactly these, behind all that the pass had seen, and
-- the pass's own entries grew by them
pub record SubmittedAll (p q : Part) (payloads : List (List ℕ)) : Type 0 where
  pub before : List Entry
  pub begins : IsPrefix p.seen.made before
  pub last : q.seen.made ≡ before ++ entries_after p payloads
  pub mine : q.mine ≡ p.mine ++ entries_after p payloads

-- Of these payloads so many were added, and there is one more: what was then seen, which the mark does not end, has so many entries and
-- takes so many bytes, and the next entry is past a limit
pub record IsFullBehind (q : Part) (payloads : List (List ℕ)) (count entries bytes : ℕ) : Type 0 where
  pub payload : List ℕ
  pub next : slice_get payloads count ≡ Some payload
  pub full : IsFullAt q.opening.limits q.seen (next_entry q.seen q.number payload) entries bytes
  pub unmarked : q.seen.finished ≢ true

-- the entries that the pass was to add with a call that failed: the next ones, of the first of these payloads; and nothing is taken any
-- more
pub record LosesAll (q : Part) (payloads : List (List ℕ)) : Type 0 where
  pub count : ℕ
  pub within : count ≤ length payloads
  pub lost : q.lost ≡ entries_made (entries_after q (take count payloads))
  pub broken : q.broken ≡ true

-- the mark was added: what was seen ends with it, and the pass, which had not ended, has
pub record Finished (p q : Part) : Type 0 where
  pub marked : q.seen.finished ≡ true
  pub before : p.ended ≢ true
  pub ended : q.ended ≡ true
