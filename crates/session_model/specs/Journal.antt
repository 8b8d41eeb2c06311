-- An outbound journal: the application messages that an end was given to send, in the order of their numbers.
-- FIXP 1.1, recoverable flow type and retransmission: a message's number is its place in the flow, from 1 on, and the sender can give it again.
use Rattle.std.specs.Prelude.{◌≡◌, ℕ, zero, suc, ◌+◌, ◌-◌, ◌≤◌, Bool, true, false, ◌==◌, List, [], ◌∷◌, map, filter, length, slice_get, Some}
use mathlib.Core.List.{IsPrefix}

-- one message: which sender of this end handed it in, the how-manieth of that sender it is, and its payload
pub record Entry : Type 0 where
  pub sender : ℕ
  pub own_number : ℕ
  pub payload : List ℕ

-- the payloads, in order
abbrev pub payloads : List Entry → List (List ℕ)
payloads h = map (λ (e : Entry). e.payload) h

-- the entry of number n, from 1 on, has this payload
pub record IsEntry (h : List Entry) (n : ℕ) (payload : List ℕ) : Type 0 where
  pub from_one : 1 ≤ n
  pub found : slice_get (payloads h) (n - 1) ≡ Some payload

-- the entries of one sender, in order
abbrev pub entries_of : List Entry → ℕ → List Entry
entries_of h s = filter (λ (e : Entry). e.sender == s) h

-- k numbers from n on: n, n + 1, and so on
abbrev pub counts_from : ℕ → ℕ → List ℕ
counts_from n zero = []
counts_from n (suc k) = n ∷ counts_from (n + 1) k

-- in order per sender: each sender's entries count 1, 2, 3 and so on
abbrev pub InOrder : List Entry → Type 0
InOrder h = (s : ℕ) → map (λ (e : Entry). e.own_number) (entries_of h s) ≡ counts_from 1 (length (entries_of h s))

-- what an outbound journal holds: entries, and the record that nothing more will be sent (FIXP 1.1, FinishedSending)
pub data OutboxRecord : Type 0 where
  entry : Entry → OutboxRecord
  finish : OutboxRecord

-- its entries, in order
abbrev pub entries : List OutboxRecord → List Entry
entries [] = []
entries (entry e ∷ records) = e ∷ entries records
entries (finish ∷ records) = entries records

-- a history: entries, behind which the mark that nothing more comes may stand
pub record History : Type 0 where
  pub made : List Entry
  pub finished : Bool

-- a history begins another; one with the mark begins itself alone
pub record BeginsHistory (first second : History) : Type 0 where
  pub made : IsPrefix first.made second.made
  pub alone : first.finished ≡ true → first ≡ second

-- whether the record that nothing more comes is there
abbrev pub is_finished : List OutboxRecord → Bool
is_finished [] = false
is_finished (entry _ ∷ records) = is_finished records
is_finished (finish ∷ records) = true

-- the history that an outbound journal holds
abbrev pub history_of : List OutboxRecord → History
history_of records = record { made = entries records; finished = is_finished records }
