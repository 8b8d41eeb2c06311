-- How a window lies in memory: 257 places in a row, of which the one at place i is for the number that lies i past the next.
-- No clause of a public call speaks of places.
use Rattle.std.specs.Prelude.{◌≡◌, ℕ, ◌+◌, ◌^◌, ◌<◌, ◌==◌, if◌then◌else◌, List, [], ◌∷◌, Option, Some, None, length}
use Rattle.std.specs.List.{AllByRecursion}
use Rattle.session_model.specs.Inbox.{Numbered, numbers_of}

-- what the places hold, where the first of them is for the number n
abbrev pub held_from : ℕ → List (Option (List ℕ)) → List Numbered
held_from n [] = []
held_from n (None ∷ places) = held_from (n + 1) places
held_from n (Some payload ∷ places) = record { number = n; payload = payload } ∷ held_from (n + 1) places

-- the numbers held are numbers of 64 bits
abbrev pub Fit : List Numbered → Type 0
Fit ms = AllByRecursion (λ n. n < 2 ^ 64) (numbers_of ms)

-- what is held once the inbox waits for the number behind n
abbrev pub without : ℕ → List Numbered → List Numbered
without n [] = []
without n (m ∷ ms) = if m.number == n then ms else m ∷ ms

-- the places of a window that holds so many messages
pub record IsWindow (next count len : ℕ) (places : List (Option (List ℕ))) : Type 0 where
  pub len_is : len ≡ 257
  pub count_is : count ≡ length (held_from next places)
  pub fit : Fit (held_from next places)
