use Rattle.std.proofs.Common.{◌≡◌, ◌-◌, ◌<◌, ◌≤◌, Some, sym, ◌∙◌, arith}
use Rattle.order_book.specs.Book.{order_with}
use Rattle.order_book.proofs.Changes.{settled_none, settled_all, settled_some}
use Rattle.order_book.proofs.shelf.Shelf.settle.Goals as goal

pub returns-in_default : goal.returns-in_default
returns-in_default c = sym (settled_none c.args.fill.now c.args.self.now (sym c.order.ensures ∙ c.in_default.is))

pub returns-then-order-fill : goal.returns-then-order-fill
returns-then-order-fill c =
    let there : order_with c.args.fill.now.cl_id c.args.self.now ≡ Some c.in-Some.order = sym c.order.ensures ∙ c.in-Some.is in
    let more : c.args.fill.now.quantity < c.in-Some.order.quantity = c.if-order-fill.true in
    c.leave.ensures ∙ sym (settled_some c.args.fill.now c.args.self.now c.in-Some.order there (λ none. let z : c.in-Some.order.quantity - c.args.fill.now.quantity ≡ 0 = none in omega (arith, more, z)))

pub returns-else-order-fill : goal.returns-else-order-fill
returns-else-order-fill c =
    let there : order_with c.args.fill.now.cl_id c.args.self.now ≡ Some c.in-Some.order = sym c.order.ensures ∙ c.in-Some.is in
    let most : c.in-Some.order.quantity ≤ c.args.fill.now.quantity = c.if-order-fill.false in
    c.take.ensures ∙ sym (settled_all c.args.fill.now c.args.self.now c.in-Some.order there (omega (arith, most)))
