use Rattle.std.proofs.Common.{◌≡◌, [], ◌∷◌, map, sym, ap, subst, ◌∙◌}
use Rattle.std.specs.List.{AllByRecursion}
use Rattle.std.specs.Result.{result_ok}
use Rattle.order_desk.specs.Orders.{order_in}
use Rattle.order_desk.specs.Reports.{InRange, report_bytes}
use Rattle.order_book.specs.Laws.{IsRested}
use Rattle.order_book.specs.Book.{reports_of, book_after}
use Rattle.order_book_gate.specs.Plan.{answers, resting_behind}
use Rattle.order_book_gate.proofs.Taking.{read_as, answers_one, any_ok, ok_of}
use Rattle.order_book_gate.proofs.orders.take_order.Goals as goal

pub written-requires-clause-range : goal.written-requires-clause-range
written-requires-clause-range c =
    let p = c.args.plan.now in
    let payload = c.args.payload.now in
    let found : result_ok c.read_order-order.result ≡ order_in p payload = read_as c.read_order-order.result (order_in p payload) c.read_order-order.ensures.told in
    subst (λ rs. AllByRecursion InRange rs) (sym (c.as_slice.ensures.value ∙ c.in_ok-reports.ensures.reports ∙ ap (λ o. reports_of c.args.book.now o) {y = order_in p payload} found))
    (c.book_in_range.ensures p payload c.args.book.now c.requires.rested).0

pub returns-clause-rested : goal.returns-clause-rested
returns-clause-rested c =
    let p = c.args.plan.now in
    let payload = c.args.payload.now in
    let found : result_ok c.read_order-order.result ≡ order_in p payload = read_as c.read_order-order.result (order_in p payload) c.read_order-order.ensures.told in
    subst (λ rs. AllByRecursion IsRested rs) (sym (c.in_ok-reports.ensures.next ∙ ap (λ o. book_after c.args.book.now o) {y = order_in p payload} found))
    (c.book_in_range.ensures p payload c.args.book.now c.requires.rested).1

pub returns-clause-book : goal.returns-clause-book
returns-clause-book c =
    let p = c.args.plan.now in
    let payload = c.args.payload.now in
    let found : result_ok c.read_order-order.result ≡ order_in p payload = read_as c.read_order-order.result (order_in p payload) c.read_order-order.ensures.told in
    any_ok c.written.result (c.in_ok-reports.ensures.next ∙ ap (λ o. book_after c.args.book.now o) {y = order_in p payload} found)

pub returns-clause-reports : goal.returns-clause-reports
returns-clause-reports c =
    let p = c.args.plan.now in
    let payload = c.args.payload.now in
    let b = c.args.book.now in
    let found : result_ok c.read_order-order.result ≡ order_in p payload = read_as c.read_order-order.result (order_in p payload) c.read_order-order.ensures.told in
    ok_of c.written.result (λ list. list ≡ map (report_bytes p) c.as_slice.result.now) (λ list. list ≡ answers p b (payload ∷ []))
    (λ list is. is ∙ ap (λ rs. map (report_bytes p) rs) (c.as_slice.ensures.value ∙ c.in_ok-reports.ensures.reports ∙ ap (λ o. reports_of b o) {y = order_in p payload} found) ∙ answers_one p b payload)
    c.written.ensures.bytes
