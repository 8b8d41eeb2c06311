use Rattle.std.proofs.Common.{◌≡◌, drop}
use Rattle.order_book.specs.Book.{all_settled}
use Rattle.order_book.proofs.shelf.Shelf.settle_all.Given as goal

abbrev pub invariant-loop-fill : goal.invariant-loop-fill
invariant-loop-fill l = all_settled (drop l.fill-index l.fills) l.self ≡ all_settled l.fills l.initial.self
