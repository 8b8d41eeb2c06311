use Rattle.std.proofs.Common.{◌≡◌, take, replicate, None}
use Rattle.std.specs.VecDeque.{deque_len}
use Rattle.flow_window.proofs.window.Window.restart.Given as goal

abbrev pub invariant-loop-at : goal.invariant-loop-at
invariant-loop-at l = record {
  next : l.self-inside.next ≡ l.fn.self.next;
  len : deque_len l.self-inside.places ≡ 257;
  freed : take l.at l.self-inside.places.items ≡ replicate l.at None;
}
