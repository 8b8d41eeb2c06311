use Rattle.std.proofs.Common.{[], inr, refl, sym, append-nil}
use Rattle.conn_told.proofs.line.add_line.Goals as goal

pub returns-then-tells_other : goal.returns-then-tells_other
returns-then-tells_other c = record { text = []; says = inr (c.tells_other.ensures.yes c.if-tells_other.true, refl); added = sym (append-nil c.args.text.now.items) }
