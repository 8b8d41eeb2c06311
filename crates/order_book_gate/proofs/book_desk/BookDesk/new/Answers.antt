use Rattle.std.proofs.Common.{refl, ap}
use Rattle.gate_turn.specs.Listed.{known_if}
use Rattle.order_book_gate.proofs.Lending.{made_new}
use Rattle.order_book_gate.proofs.book_desk.BookDesk.new.Goals as goal

pub returns-clause-own : goal.returns-clause-own
returns-clause-own g c = λ lock has. made_new lock _ c.args.passes has c.take-pass.ensures.exact refl refl refl c.new-book.ensures

pub returns-clause-known : goal.returns-clause-known
returns-clause-known g c = ap known_if c.take-pass.ensures.exact
