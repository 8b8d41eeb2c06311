use Rattle.std.proofs.Common.{◌∙◌}
use Rattle.order_book_gate.proofs.Lending.{these_of}
use Rattle.order_book_gate.proofs.book_desk.BookDeskBusiness.lend.Goals as goal

pub returns-clause-these : goal.returns-clause-these
returns-clause-these g c = λ lock has. these_of lock c.args.self.now.desk has.seated c.alone.result (c.alone.ensures.there ∙ c.take.ensures.value) c.alone.ensures.others
