use Rattle.std.proofs.Common.{◌≡◌, [], ◌++◌, ◌+◌, ◌≤◌, length}
use Rattle.std.specs.Prelude.{vec_len, vec_capacity}
use Rattle.std.specs.Vec.Iter.{into_iter_items}
use Rattle.conn_turns.specs.News.{items_of, delivered_in}
use Rattle.conn_turns.proofs.news.News.take_delivered.Given as goal

-- what was taken, followed by what is delivered by the items that are left, is all; and there is room for these
abbrev pub invariant-loop-item : goal.invariant-loop-item
invariant-loop-item l = record {
  next : (goal.iterator-loop-item).can_next l.item-iterator;
  finite : (goal.iterator-loop-item).is_finite l.item-iterator;
  all : l.payloads.items ++ delivered_in (into_iter_items l.item-iterator) ≡ delivered_in (items_of l.fn.self);
  room : vec_len l.payloads + length (into_iter_items l.item-iterator) ≤ vec_capacity l.payloads;
  empty : items_of l.self ≡ [];
}
