use Rattle.std.proofs.Common.{◌≡◌, drop}
use Rattle.order_book.specs.Book.{left_of}
use Rattle.order_book.proofs.matching.left_of.Given as goal

abbrev pub invariant-loop-fill : goal.invariant-loop-fill
invariant-loop-fill l = left_of l.left (drop l.fill-index l.fills) ≡ left_of l.quantity l.fills
