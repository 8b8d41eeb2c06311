use Rattle.std.proofs.Common.{sym, ap, ◌∙◌}
use Rattle.order_book.specs.Book.{order_with}
use Rattle.order_book.proofs.Maps.{an_order, no_order}
use Rattle.order_book.proofs.shelf.Shelf.order.Goals as goal

pub returns-in-Some : goal.returns-in-Some
returns-in-Some c =
    let s = c.self.inside in
    c.copied.ensures
    ∙ (c.get-in-Some.ensures.value
    ∙ (an_order s.orders s.arrivals s.queue s.next c.self.invariant c.args.cl_id c.in-Some.arrival.now (sym c.in-Some.ensures.value)
    ∙ ap (λ rs. order_with c.args.cl_id rs) c.self.view_is))

pub returns-in-None : goal.returns-in-None
returns-in-None c =
    let s = c.self.inside in
    sym (no_order s.orders s.arrivals s.queue s.next c.self.invariant c.args.cl_id (sym c.in-None.ensures.value))
    ∙ ap (λ rs. order_with c.args.cl_id rs) c.self.view_is
