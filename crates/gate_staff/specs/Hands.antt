-- The hands that a business gives out for a call, which work at once, in threads where these can be made (this project's profile).
use Rattle.std.specs.Prelude.{◌≡◌, ℕ, ◌<◌, List, [], length, slice_index_or, Option, Some, None}

-- the hands that were given out, if any
abbrev pub hands_in : {H : Type 0} → Option (List H) → List H
hands_in None = []
hands_in (Some hands) = hands

-- each hand did its part, in its place
pub record WorkedEach {H : Type 0} (worked : H → H → Type 0) (before after : List H) : Type 0 where
  pub long : length after ≡ length before
  pub each : (i : ℕ) (h : H) → i < length before → worked (slice_index_or before i h) (slice_index_or after i h)

-- a business has its hands again: it gave them out when it was `before`, each did its part, and it took them back
pub record HasAgain {B H : Type 0} (took : B → B → List H → List H → Type 0) (worked : H → H → Type 0) (before now : B) : Type 0 where
  pub given : List H
  pub back : List H
  pub took_back : took before now given back
  pub did : WorkedEach worked given back
