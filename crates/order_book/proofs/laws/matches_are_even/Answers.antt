use Rattle.order_book.proofs.Going.{matches_are_even}
use Rattle.order_book.proofs.laws.matches_are_even.Goals as goal

pub returns : goal.returns
returns c = matches_are_even
