-- What was read of INPUT.
use Rattle.std.proofs.Common.{◌≡◌, ℕ, zero, suc, ◌+◌, List, length, refl, ap}
use Rattle.plan_text.specs.Plans.{Gift, payloads_of_senders}

-- so many plans are those of so many senders
pub many_plans : (first n : ℕ) (gifts : List Gift) → length (payloads_of_senders first n gifts) ≡ n
many_plans first zero gifts = refl
many_plans first (suc n) gifts = ap suc (many_plans (first + 1) n gifts)
