-- An inbound journal: what was applied of the peer's flow, and what was told to be missing.
-- FIXP 1.1, idempotent flow type, with Applied and NotApplied; that both stand in one journal is this project's profile.
use Rattle.std.specs.Prelude.{◌≡◌, Bool, true, false, ℕ, ◌+◌, max, ◌==◌, List, [], ◌∷◌, ◌++◌, map, flat_map, count_by, ◌≤◌, ⊤}
use Rattle.session_model.specs.Journal.{counts_from}

-- a message with its number
pub record Numbered : Type 0 where
  pub number : ℕ
  pub payload : List ℕ

-- count numbers from first on
pub record Range : Type 0 where
  pub first : ℕ
  pub count : ℕ

-- one record: a message applied; numbers that were jumped over and not applied; that the session was negotiated;
-- that the peer finished, with its last number
pub data InboxRecord : Type 0 where
  apply : Numbered → InboxRecord
  skip : Range → InboxRecord
  negotiated : InboxRecord
  peer_finished : ℕ → InboxRecord

-- the messages applied, in order
abbrev pub applied : List InboxRecord → List Numbered
applied [] = []
applied (apply m ∷ records) = m ∷ applied records
applied (skip _ ∷ records) = applied records
applied (negotiated ∷ records) = applied records
applied (peer_finished _ ∷ records) = applied records

-- the ranges that were jumped over, in order
abbrev pub skips : List InboxRecord → List Range
skips [] = []
skips (apply _ ∷ records) = skips records
skips (skip r ∷ records) = r ∷ skips records
skips (negotiated ∷ records) = skips records
skips (peer_finished _ ∷ records) = skips records

-- whether the peer finished
abbrev pub has_peer_finished : List InboxRecord → Bool
has_peer_finished [] = false
has_peer_finished (apply _ ∷ records) = has_peer_finished records
has_peer_finished (skip _ ∷ records) = has_peer_finished records
has_peer_finished (negotiated ∷ records) = has_peer_finished records
has_peer_finished (peer_finished _ ∷ records) = true

-- the numbers of a range, and of some messages
abbrev pub numbers_in : List Range → List ℕ
numbers_in rs = flat_map (λ (r : Range). counts_from r.first r.count) rs

abbrev pub numbers_of : List Numbered → List ℕ
numbers_of ms = map (λ (m : Numbered). m.number) ms

-- the payloads of some messages
abbrev pub payloads_of : List Numbered → List (List ℕ)
payloads_of ms = map (λ (m : Numbered). m.payload) ms

-- the numbers that are missing
abbrev pub missing : List InboxRecord → List ℕ
missing records = numbers_in (skips records)

-- the numbers that are applied or missing
abbrev pub settled : List InboxRecord → List ℕ
settled records = numbers_of (applied records) ++ missing records

-- one past the greatest of some numbers, and 1 where there is none
abbrev pub past_greatest : List ℕ → ℕ
past_greatest [] = 1
past_greatest (n ∷ ns) = max (n + 1) (past_greatest ns)

-- the number that the inbox waits for
abbrev pub next_number : List InboxRecord → ℕ
next_number records = past_greatest (settled records)

-- how often n stands in a list
abbrev pub times : ℕ → List ℕ → ℕ
times n ns = count_by (λ m. m == n) ns

-- two lists have each number as often
abbrev pub SameNumbers : List ℕ → List ℕ → Type 0
SameNumbers ms ns = (n : ℕ) → times n ms ≡ times n ns

-- numbers that rise, each once, the first at least n
abbrev pub Ascending : ℕ → List ℕ → Type 0
Ascending n [] = ⊤
Ascending n (m ∷ ms) = (n ≤ m) × Ascending (m + 1) ms
