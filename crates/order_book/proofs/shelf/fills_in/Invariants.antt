use Rattle.std.proofs.Common.{◌≡◌, ◌++◌, filter, nat_cmp}
use Rattle.std.specs.BTreeMap.{get}
use Rattle.order_book.specs.Index.{is_met, met, walked}
use Rattle.order_book.proofs.shelf.fills_in.Given as goal

abbrev pub invariant-loop-place : goal.invariant-loop-place
invariant-loop-place l =
    l.fills.items ++ walked l.left (met (get nat_cmp l.orders) l.place-iterator)
    ≡ walked l.incoming.quantity (met (get nat_cmp l.orders) (filter (is_met l.incoming) l.queue.keys))
