use Rattle.std.proofs.Common.{◌≡◌, ◌++◌, [], ◌∷◌, take, All, sym, ap, ◌∙◌, subst}
use Rattle.std.proofs.lemmas.List.{get_or_default}
use Rattle.std.proofs.lemmas.List.Elements.{All-append}
use Rattle.fixp_msgs.specs.Payload.{IsApplication}
use Rattle.order_book_gate.specs.Plan.{answers, resting_behind}
use Rattle.order_book_gate.proofs.Taking.{answers_next, resting_next}
use Rattle.order_book_gate.proofs.orders.take_orders.Goals as goal

pub loop-payload-preserved : goal.loop-payload-preserved
loop-payload-preserved c =
    let at = c.loop-payload.invariant in
    let p = c.args.plan.now in
    let b = c.args.book.now in
    let xs = c.args.payloads.now in
    let i = c.loop-payload.payload-index in
    let x = c.as_slice.result.now in
    let had = c.loop-payload.reports.items in
    let inside = c.loop-payload-test.true in
    let is = c.as_slice.ensures ∙ c.payload-item.is ∙ get_or_default xs i c.payload-item.result x inside in
    let e = c.in_ok-list.ensures in
    let items : c.append.new.self.items ≡ had ++ c.in_ok-list.list = c.in_ok-append.ensures.items ∙ ap (λ ys. had ++ ys) c.from-list.ensures in
    record {
      rested = c.take_order.ensures.rested;
      resting = e.book ∙ ap (λ rs. resting_behind p rs (x ∷ [])) at.resting ∙ resting_next p b xs i x inside is;
      reports = items ∙ ap (λ ys. had ++ ys) (e.reports ∙ ap (λ rs. answers p rs (x ∷ [])) at.resting)
          ∙ ap (λ ys. ys ++ answers p (resting_behind p b (take i xs)) (x ∷ [])) at.reports ∙ answers_next p b xs i x inside is;
      applications = subst (λ ys. All IsApplication ys) (sym items) (All-append IsApplication had c.in_ok-list.list at.applications e.applications);
    }
