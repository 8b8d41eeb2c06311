use Rattle.std.proofs.Common.{sym, ◌∙◌}
use Rattle.order_book_gate.proofs.passing.alone.Goals as goal

pub returns-in-None-clause-there : goal.returns-in-None-clause-there
returns-in-None-clause-there g c = c.new.ensures.empty 1 ∙ sym c.in-None.is
