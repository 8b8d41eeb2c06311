use Rattle.std.proofs.Common.{◌≡◌, ◌+◌, ◌-◌, drop}
use Rattle.std.specs.VecDeque.{deque_len}
use Rattle.flow_window.specs.Window.{least}
use Rattle.flow_window.specs.Places.{held_from}
use Rattle.flow_window.proofs.window.Window.least.Given as goal

abbrev pub invariant-loop-at : goal.invariant-loop-at
invariant-loop-at l = least (held_from (l.self-inside.next + l.at) (drop l.at l.self-inside.places.items)) ≡ least l.self.held

abbrev pub decreases-loop-at : goal.decreases-loop-at
decreases-loop-at l = deque_len l.self-inside.places - l.at
