use Rattle.order_book.proofs.Uncrossed.{accepted_is_new}
use Rattle.order_book.proofs.Totals.{quantities_are_kept}
use Rattle.order_book.proofs.laws.quantities_are_kept.Goals as goal

pub returns-clause-kept : goal.returns-clause-kept
returns-clause-kept c = quantities_are_kept

pub returns-clause-anew : goal.returns-clause-anew
returns-clause-anew c = accepted_is_new
