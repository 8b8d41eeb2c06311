use Rattle.std.proofs.Common.{◌≡◌, ap, ◌∙◌, arith}
use Rattle.order_book.specs.Book.{fills_of, left_of, all_settled, entered}
use Rattle.order_book.proofs.Entering.{enters_some, enters_none}
use Rattle.order_book.proofs.shelf.Shelf.enter.Goals.{then-left-gt0+in_ok-put, else-left-gt0}
use Rattle.order_book.proofs.shelf.Shelf.enter.Goals as goal

pub returns-clause-next : goal.returns-clause-next
returns-clause-next c =
    let o = c.args.order.now in
    let rs = c.args.self.now in
    let fs = fills_of o rs in
    let is : c.deref-3.result.now ≡ fs = c.deref-3.ensures.value ∙ c.in_ok-fills.ensures in
    let left : c.left_of-left.result ≡ left_of o.quantity fs =
    c.left_of-left.ensures ∙ ap (λ l. left_of o.quantity l) (c.deref-2.ensures.value ∙ c.in_ok-fills.ensures) in
    let behind : all_settled fs c.if-left-gt0.self ≡ entered o fs rs = elim c.if-left-gt0.branch [
      | then-left-gt0+in_ok-put w ↦ ap (λ l. all_settled fs l) (w.self-is ∙ w.in_ok-put.ensures.ok) ∙ enters_some o rs c.left_of-left.result left w.if-left-gt0.true
      | else-left-gt0 w ↦ ap (λ l. all_settled fs l) w.self-is ∙ enters_none o rs c.left_of-left.result left (omega (arith, w.if-left-gt0.false))
    ] in
    c.settle_all.ensures ∙ (ap (λ l. all_settled l c.if-left-gt0.self) is ∙ behind)
