-- A text has one reading.
use Rattle.std.specs.Prelude.{◌≡◌, ℕ, ◌<◌, ◌^◌, List}
use Rattle.plan_text.specs.Plans.{HasPlans, IsRefusedAt}

-- it has the plans of one reading alone, or is refused at one line alone, and not both
abbrev pub OneReading : Type 0
OneReading = (senders : ℕ) (text : List ℕ) → senders < 2 ^ 16
    → ((a b : List (List (List ℕ))) → HasPlans senders text a → HasPlans senders text b → a ≡ b)
    × ((n m : ℕ) → IsRefusedAt senders text n → IsRefusedAt senders text m → n ≡ m)
    × ((a : List (List (List ℕ))) (n : ℕ) → HasPlans senders text a → IsRefusedAt senders text n → ⊥)
