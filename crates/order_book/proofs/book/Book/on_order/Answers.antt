use Rattle.std.specs.Result.{result_ok}
use Rattle.order_book.specs.Laws.{IsBook}
use Rattle.order_book.proofs.Uncrossed.{stays_book}
use Rattle.order_book.proofs.book.Book.on_order.Goals as goal

pub invariant_of-self : goal.invariant_of-self
invariant_of-self c =
    stays_book c.on_order.result c.self.inside.shelf c.on_order.new.self (result_ok c.args.order.now) c.self.invariant c.on_order.ensures.next c.on_order.ensures.same

pub returns-clause-uncrossed : goal.returns-clause-uncrossed
returns-clause-uncrossed c =
    let kept : IsBook c.on_order.new.self =
    stays_book c.on_order.result c.self.inside.shelf c.on_order.new.self (result_ok c.args.order.now) c.self.invariant c.on_order.ensures.next c.on_order.ensures.same in
    kept.uncrossed
