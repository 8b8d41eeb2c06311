-- Laws over the plans of senders.
use Rattle.std.specs.Prelude.{◌≡◌, ℕ, List}
use mathlib.Core.List.{IsPrefix}
use Rattle.session_model.specs.Journal.{History, OutboxRecord, InOrder}
use Rattle.session_model.specs.Lives.{Life, KeepsOutbox}
use Rattle.jr_boxes.specs.Outboxes.{outbox_of}
use Rattle.gate_turn.specs.Views.{Account, Part}
use Rattle.gate_turn.specs.Steps.{Closed}
use Rattle.life_laws.specs.Plans.{plan_in, PlansMade, KeepsPlans, LosesNext, GoesOnWith}

-- where the passes know that plans were submitted, the history that comes out keeps them, and what was refused is next of them
abbrev pub PlansAreKept : Type 0
PlansAreKept = (opening now : Account) (plans : List (List (List ℕ))) (known : ℕ → Part)
    → PlansMade opening plans known → Closed known (known 1).made opening now
    → KeepsPlans plans opening.history now.history × LosesNext plans opening.history now.history now.refused

-- a history that keeps plans goes on with each beginning of what was lost
abbrev pub PlansGoOn : Type 0
PlansGoOn = (plans : List (List (List ℕ))) (opening closing : History) (lost : List OutboxRecord)
    → KeepsPlans plans opening closing → LosesNext plans opening closing lost → GoesOnWith plans opening closing lost

-- a life over these outboxes keeps its outbox by these plans, where each does that a stop may leave: the closing one, with each beginning of
-- what was refused behind it
abbrev pub PlansKeepOutbox : Type 0
PlansKeepOutbox = (plans : List (List (List ℕ))) (opening closing : History) (life : Life) → KeepsPlans plans opening closing → InOrder closing.made
    → GoesOnWith plans opening closing life.refused_outbox
    → life.opening_outbox ≡ outbox_of opening → life.closing_outbox ≡ outbox_of closing
    → IsPrefix life.served.opening_inbox life.served.closing_inbox
    → KeepsOutbox (plan_in plans) life
