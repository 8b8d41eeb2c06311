-- What desks are to send, as a plan over the applied messages (this project's profile): each message goes to one desk in turn, and a desk
-- reports on its own messages in their order.
use Rattle.std.specs.Prelude.{ℕ, ◌+◌, ◌-◌, ◌%◌, ◌==◌, nat_le, ◌&&◌, ℤ, if◌then◌else◌, List, [], ◌∷◌, map, flat_map}
use Rattle.sbe_layout.specs.declared.plan.Plan.{Plan}
use Rattle.order_desk.specs.Schema.{order_plan}
use Rattle.order_desk.specs.Orders.{order_in}
use Rattle.order_desk.specs.Reports.{reports_of, report_bytes}

-- the payloads that a desk, by its number and its reference price, sends for one payload
abbrev pub answers : Plan → ℕ → ℤ → List ℕ → List (List ℕ)
answers plan desk reference payload = map (report_bytes plan) (reports_of desk reference (order_in plan payload))

-- of d desks, the one to which the n-th message goes, counted from 1
abbrev pub desk_at : ℕ → ℕ → ℕ
desk_at d n = (n - 1) % d + 1

-- those of some messages that go to desk s, where the first of them is the n-th of all
abbrev pub share : ℕ → ℕ → ℕ → List (List ℕ) → List (List ℕ)
share d s n [] = []
share d s n (m ∷ ms) = if desk_at d n == s then m ∷ share d s (n + 1) ms else share d s (n + 1) ms

-- the plan of d desks of a version: what desk s sends for its share of the applied messages; another sender sends nothing
abbrev pub desk_plan : ℕ → ℕ → ℤ → ℕ → List (List ℕ) → List (List ℕ)
desk_plan d version reference s applied =
    if nat_le 1 s && nat_le s d then flat_map (answers (order_plan version) s reference) (share d s 1 applied) else []
