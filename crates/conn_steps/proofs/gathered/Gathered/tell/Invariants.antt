use Rattle.std.proofs.Common.{◌≡◌, ◌+◌, ◌-◌, ◌≤◌, ◌++◌, length, take}
use Rattle.std.specs.Vec.Iter.{drain_items}
use Rattle.conn_turns.specs.News.{items_of, HasRoom}
use Rattle.conn_turns.specs.Frames.{delivers}
use Rattle.conn_turns.specs.Gathering.{numbered_from}
use Rattle.conn_steps.specs.Gathered.{payloads_in}
use Rattle.conn_steps.proofs.gathered.Gathered.tell.Given as goal

-- what was told, and what is told by the payloads that are left, is all; there is room for these, and numbers
abbrev pub invariant-loop-payload : goal.invariant-loop-payload
invariant-loop-payload l = record {
  next : (goal.iterator-loop-payload).can_next l.payload-iterator;
  finite : (goal.iterator-loop-payload).is_finite l.payload-iterator;
  all : items_of l.news ++ delivers (numbered_from l.number (drain_items l.payload-iterator))
      ≡ items_of l.fn.news ++ delivers (take (l.past - l.first) (numbered_from l.first (payloads_in l.fn.self)));
  room : HasRoom l.news (length (drain_items l.payload-iterator));
  numbers : l.number + length (drain_items l.payload-iterator) ≤ l.past;
}
