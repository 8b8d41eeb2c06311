use Rattle.std.proofs.Common.{◌≡◌, ap}
use Rattle.gate_turn.specs.Listed.{known_if, known_at}
use Rattle.order_book_gate.specs.Desk.{part_of}
use Rattle.order_book_gate.proofs.Calls.{only}
use Rattle.order_book_gate.proofs.Lending.{regained, stands_given}
use Rattle.order_book_gate.proofs.book_desk.BookDeskBusiness.regain.Goals as goal

pub returns-clause-own : goal.returns-clause-own
returns-clause-own g c = λ lock has. regained lock c.args.passes has c.args.self.now c.requires.lent c.take.result c.take.ensures.exact c.requires.again c.requires.met

pub returns-clause-known : goal.returns-clause-known
returns-clause-known g c = only (λ n. part_of (record c.args.self.now { desk = record c.args.self.now.desk { pass = c.take.result } }) n ≡ known_at c.args.passes n) (ap known_if c.take.ensures.exact)

pub returns-clause-stands : goal.returns-clause-stands
returns-clause-stands g c = λ l st. stands_given c.requires.these.0 c.args.self.now c.take.result l st
