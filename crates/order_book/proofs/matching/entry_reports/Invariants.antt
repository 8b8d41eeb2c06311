use Rattle.std.proofs.Common.{◌≡◌, ◌++◌, drop, flat_map}
use Rattle.order_book.specs.Book.{both_filled, entry_reports}
use Rattle.order_book.proofs.matching.entry_reports.Given as goal

abbrev pub invariant-loop-fill : goal.invariant-loop-fill
invariant-loop-fill l = l.reports.items ++ flat_map (both_filled l.order.cl_id) (drop l.fill-index l.fills) ≡ entry_reports l.order l.fills
