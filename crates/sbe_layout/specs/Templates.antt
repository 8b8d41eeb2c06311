-- The place of the first message of each template.
use Rattle.std.specs.Prelude.{◌≡◌, ℕ, ◌+◌, ◌==◌, if◌then◌else◌, Option, Some, None, List, [], ◌∷◌}
use Rattle.std.specs.Ordering.{nat_cmp}
use Rattle.std.specs.BTreeMap.{BTreeMap, get}
use Rattle.sbe_layout.specs.declared.plan.MessagePlan.{MessagePlan}

-- the messages being counted from `at`
abbrev pub place_among : ℕ → List MessagePlan → ℕ → Option ℕ
place_among at [] template = None
place_among at (m ∷ ms) template = if m.template == template then Some at else place_among (at + 1) ms template

pub record HasPlaces (map : BTreeMap ℕ ℕ) (at : ℕ) (messages : List MessagePlan) : Type 0 where
  pub found : (template : ℕ) → get nat_cmp map template ≡ place_among at messages template
