use Rattle.order_book.proofs.Ranges.{book_in_range}
use Rattle.order_book.proofs.laws.book_in_range.Goals as goal

pub returns : goal.returns
returns c = book_in_range c.reports_in_range.ensures.law
