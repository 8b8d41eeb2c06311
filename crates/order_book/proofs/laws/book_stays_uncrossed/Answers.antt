use Rattle.order_book.proofs.Uncrossed.{book_stays_uncrossed}
use Rattle.order_book.proofs.laws.book_stays_uncrossed.Goals as goal

pub returns : goal.returns
returns c = book_stays_uncrossed
