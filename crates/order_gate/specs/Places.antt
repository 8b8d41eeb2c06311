-- Which of some messages go to a desk, by their places (this project's profile).
use Rattle.std.specs.Prelude.{ℕ, zero, suc, ◌+◌, ◌==◌, if◌then◌else◌, List, [], ◌∷◌, flat_map, slice_get, option_to_list}
use Rattle.order_desk.specs.Plans.{desk_at}

-- of so many messages, the first of which is the n-th of all and has the place i, the places of those that go to desk s of d
abbrev pub places : (d s n i : ℕ) → ℕ → List ℕ
places d s n i zero = []
places d s n i (suc count) = if desk_at d n == s then i ∷ places d s (n + 1) (i + 1) count else places d s (n + 1) (i + 1) count

-- the messages at some places
abbrev pub at_places : List (List ℕ) → List ℕ → List (List ℕ)
at_places payloads list = flat_map (λ i. option_to_list (slice_get payloads i)) list
