-- Lower numbers stand before `low`, and greater ones from `high` on.
use Rattle.std.proofs.Common.{◌-◌, ◌<◌, ◌≤◌, length, take, drop}
use Rattle.std.specs.List.{AllByRecursion}
use Rattle.routes.specs.declared.sorted.Route.{Route}
use Rattle.routes.proofs.sorted.search.Given as goal

abbrev pub invariant-loop-low : goal.invariant-loop-low
invariant-loop-low l =
    (l.low ≤ l.high)
    × (l.high ≤ length l.routes)
    × AllByRecursion (λ (r : Route). r.key < l.key) (take l.low l.routes)
    × AllByRecursion (λ (r : Route). l.key < r.key) (drop l.high l.routes)

abbrev pub decreases-loop-low : goal.decreases-loop-low
decreases-loop-low l = l.high - l.low
