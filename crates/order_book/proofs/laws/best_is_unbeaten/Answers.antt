use Rattle.order_book.proofs.Going.{best_is_unbeaten}
use Rattle.order_book.proofs.laws.best_is_unbeaten.Goals as goal

pub returns : goal.returns
returns c = best_is_unbeaten
