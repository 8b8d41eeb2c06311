use Rattle.std.proofs.Common.{true≢false, refl, sym}
use Rattle.turns_at_once.proofs.book.Book.new.Goals as goal

pub returns : goal.returns
returns c = record { whole = λ e. true≢false (sym e); clean = refl }
