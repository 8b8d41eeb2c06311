use Rattle.order_book.proofs.Going.{reports_go_on}
use Rattle.order_book.proofs.laws.reports_go_on.Goals as goal

pub returns : goal.returns
returns c = reports_go_on
